-- What a location is seen as.
use Rattle.text_places.specs.Locations.{SourceLocation}
use Rattle.text_places.specs.declared.location.Location.{Location}

abbrev pub location_of : Location → SourceLocation
location_of location = record { file = location.file.now; line = location.line; column = location.column }

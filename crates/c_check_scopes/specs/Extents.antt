-- Extents of Rust as those of the layout.
use Rattle.c_tree.specs.Layout.{Extent}
use Rattle.c_check_scopes.specs.declared.extents.Extent.{Extent as ExtentTree}

abbrev pub extent_seen : ExtentTree → Extent
extent_seen e = record { size = e.size; alignment = e.alignment }

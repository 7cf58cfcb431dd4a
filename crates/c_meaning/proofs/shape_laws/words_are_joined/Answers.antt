use Rattle.c_meaning.proofs.Joining.{whole_of_table, table_of_whole, front_of_table, table_of_front}
use Rattle.c_meaning.proofs.shape_laws.words_are_joined.Goals as goal

pub returns-clause-whole : goal.returns-clause-whole
returns-clause-whole c = whole_of_table

pub returns-clause-joined_whole : goal.returns-clause-joined_whole
returns-clause-joined_whole c = table_of_whole

pub returns-clause-front : goal.returns-clause-front
returns-clause-front c = front_of_table

pub returns-clause-joined_front : goal.returns-clause-joined_front
returns-clause-joined_front c = table_of_front

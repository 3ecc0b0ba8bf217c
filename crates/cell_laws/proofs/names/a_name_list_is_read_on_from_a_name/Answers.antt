use Rattle.cell_laws.proofs.Listing.{listed_behind}
use Rattle.cell_laws.proofs.names.a_name_list_is_read_on_from_a_name.Goals as goal

pub returns : goal.returns
returns c = listed_behind

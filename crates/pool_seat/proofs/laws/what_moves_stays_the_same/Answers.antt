use Rattle.pool_seat.proofs.Moved.{moved_decl, moved_instance, moved_list, moved_ty, moved_value}
use Rattle.pool_seat.proofs.laws.what_moves_stays_the_same.Goals as goal

pub returns-clause-types : goal.returns-clause-types
returns-clause-types c = moved_ty

pub returns-clause-values : goal.returns-clause-values
returns-clause-values c = moved_value

pub returns-clause-declarations : goal.returns-clause-declarations
returns-clause-declarations c = moved_decl

pub returns-clause-instances : goal.returns-clause-instances
returns-clause-instances c = moved_instance

pub returns-clause-lists : goal.returns-clause-lists
returns-clause-lists c = moved_list

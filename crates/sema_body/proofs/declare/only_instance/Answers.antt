use Rattle.type_form.proofs.ListsLemmas.{DenotesArgs-list, ListArgs-nil}
use Rattle.sema_body.proofs.DeclareLemmas.{only-made}
use Rattle.sema_body.proofs.declare.only_instance.Goals as goal

pub instance-requires-clause-args_known : goal.instance-requires-clause-args_known
instance-requires-clause-args_known g c = (DenotesArgs-list _ _ _ _ c.in_ok-args.ensures.list (ListArgs-nil _)).known

pub returns-clause-instance : goal.returns-clause-instance
returns-clause-instance g c = only-made _ _ _ c.args.decl _ _ c.intern_list.ensures.interns.grows c.requires c.in_ok-args.ensures.list c.in_ok-made.ensures.instance

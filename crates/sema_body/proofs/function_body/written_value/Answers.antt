use Rattle.type_form.proofs.ListsLemmas.{DenotesNames-list, ListNames-nil}
use Rattle.sema_body.proofs.AttemptLemmas.{written-body}
use Rattle.sema_body.proofs.function_body.written_value.Goals as goal

pub returns-clause-known : goal.returns-clause-known
returns-clause-known g c =
    (written-body _ _ c.args.body c.args.ty _ _ _ c.intern_list.ensures.interns.grows c.requires.body c.requires.ty (DenotesNames-list _ _ _ _ c.in_ok-errors.ensures.list (ListNames-nil _)) c.new.ensures.items c.finish.ensures).0

pub returns-clause-value : goal.returns-clause-value
returns-clause-value g c =
    (written-body _ _ c.args.body c.args.ty _ _ _ c.intern_list.ensures.interns.grows c.requires.body c.requires.ty (DenotesNames-list _ _ _ _ c.in_ok-errors.ensures.list (ListNames-nil _)) c.new.ensures.items c.finish.ensures).1

use Rattle.std.proofs.Common.{refl, ◌∙◌}
use Rattle.zir_astgen.proofs.CallLemmas.{faults_are}
use Rattle.zir_astgen.proofs.EntryLemmas.{core_is, file_is}
use Rattle.zir_astgen.proofs.core_tree.astgen.Goals as goal

pub returns-clause-zir : goal.returns-clause-zir
returns-clause-zir c =
    c.in_ok-zir.ensures
    ∙ core_is _ _ c.args.text.now c.args.tokens.now c.args.tree.now.nodes c.args.tree.now.root refl c.as_slice.ensures
    (file_is c.args.text.now c.args.tokens.now c.args.tree.now.nodes c.args.tree.now.root _ _ _
    (c.as_slice-2.ensures.value ∙ c.in_ok-facts.ensures) (c.in_ok-events.ensures ∙ c.as_slice-3.ensures ∙ c.requires.events) (c.in_ok-captures.ensures ∙ c.as_slice-4.ensures ∙ c.requires.captures))

pub returns-clause-found : goal.returns-clause-found
returns-clause-found c =
    c.of-3.ensures
    ∙ faults_are _ c.args.text.now _ c.args.tree.now.root _ _ _ c.as_slice.ensures c.in_ok-calls.ensures c.as_slice-6.ensures.value c.in_ok-found.ensures

use Rattle.std.proofs.Common.{[], ◌∙◌, ap, length, arith, rules}
use Rattle.std.proofs.lemmas.List.{take_all}
use Rattle.type_form.proofs.ListsLemmas.{AreNames-list}
use Rattle.type_trees.proofs.CallLemmas.{Reads-trans}
use Rattle.type_trees.proofs.ReadLemmas.{name_at, names_length, one_more}
use Rattle.type_trees.proofs.lists.read_names.Goals as goal

pub read_numbers-requires : goal.read_numbers-requires
read_numbers-requires g c = AreNames-list _ _ c.requires

pub read_bytes-requires : goal.read_bytes-requires
read_bytes-requires g c =
    (name_at _ _ _ _ _ [] c.loop-number.invariant.reads.grows c.requires (c.deref-number-items.ensures.value ∙ c.in_ok-numbers.ensures.numbers) c.loop-number-test.true).known

pub loop-number-preserved : goal.loop-number-preserved
loop-number-preserved g c =
    let e = c.deref-number-items.ensures.value ∙ c.in_ok-numbers.ensures.numbers in
    let at = name_at _ _ _ _ _ [] c.loop-number.invariant.reads.grows c.requires e c.loop-number-test.true in
    record {
      reads = Reads-trans c.loop-number.invariant.reads c.in_ok-name.ensures.reads;
      agrees = c.in_ok-name.ensures.agrees;
      names = one_more _ _ _ _ [] _ (omega (arith, c.loop-number-test.true, ap length e, names_length _ _ c.requires)) c.loop-number.invariant.names (search rules) (c.in_ok-name.ensures.bytes ∙ at.is);
    }

pub returns-clause-names : goal.returns-clause-names
returns-clause-names g c =
    let e = c.deref-number-items.ensures.value ∙ c.in_ok-numbers.ensures.numbers in
    c.of.ensures ∙ (c.loop-number.invariant.names ∙ take_all _ _ (omega (arith, c.loop-number-test.false, ap length e, names_length _ _ c.requires)))

use Rattle.std.proofs.Common.{◌∙◌, ℕ, List, length, get_or, ap, arith, rules}
use Rattle.type_form.specs.declared.tree.Ty.TheVariants as ty
use Rattle.type_form.specs.declared.tree.Value.TheVariants as value
use Rattle.type_form.specs.declared.tree.Arg.TheVariants as arg
use Rattle.type_form.specs.declared.tree.SimpleTy.TheVariants as simple
use Rattle.std.proofs.lemmas.List.{take_all}
use Rattle.type_form.proofs.ListsLemmas.{AreTys-list, AreArgs-list, AreValues-list}
use Rattle.type_trees.proofs.CallLemmas.{Reads-trans}
use Rattle.type_trees.proofs.ItemLemmas.{ty_item-size, arg_item-size, value_item-size}
use Rattle.type_trees.proofs.ReadLemmas.{ty_read, tys_length, arg_read, args_length, value_read, values_length, one_more}
use Rattle.type_trees.proofs.read.+read.Goals as goal

pub read_tys-read_numbers-requires : goal.read_tys-read_numbers-requires
read_tys-read_numbers-requires g t c = AreTys-list _ _ c.requires

pub read_args-read_numbers-requires : goal.read_args-read_numbers-requires
read_args-read_numbers-requires g t c = AreArgs-list _ _ c.requires

pub read_values-read_numbers-requires : goal.read_values-read_numbers-requires
read_values-read_numbers-requires g t c = AreValues-list _ _ c.requires

pub read_value-returns-in_err-held-in-TaggedValue-clause-reads : goal.read_value-returns-in_err-held-in-TaggedValue-clause-reads
read_value-returns-in_err-held-in-TaggedValue-clause-reads g t c = Reads-trans c.value_key.ensures.reads (Reads-trans c.in_ok-of-in-TaggedValue.ensures.reads (Reads-trans c.in_ok-name-in-TaggedValue.ensures.reads c.in_err-held-in-TaggedValue.ensures.reads))

pub read_value-returns-in_err-new-in-TaggedValue-clause-reads : goal.read_value-returns-in_err-new-in-TaggedValue-clause-reads
read_value-returns-in_err-new-in-TaggedValue-clause-reads g t c = Reads-trans c.value_key.ensures.reads (Reads-trans c.in_ok-of-in-TaggedValue.ensures.reads (Reads-trans c.in_ok-name-in-TaggedValue.ensures.reads c.in_ok-held-in-TaggedValue.ensures.reads))

pub read_value-returns-in_err-decl-in-AddressValue-clause-reads : goal.read_value-returns-in_err-decl-in-AddressValue-clause-reads
read_value-returns-in_err-decl-in-AddressValue-clause-reads g t c = Reads-trans c.value_key.ensures.reads (Reads-trans c.in_ok-of-in-AddressValue.ensures.reads c.in_err-decl-in-AddressValue.ensures.reads)

pub read_tys-read_ty-requires : goal.read_tys-read_ty-requires
read_tys-read_ty-requires g t c =
    let e = c.deref-number-items.ensures.value ∙ c.in_ok-numbers.ensures.numbers in
    let grows = c.loop-number.invariant.reads.grows in
    let small = ty_item-size _ _ _ _ _ grows c.requires (omega (arith, c.loop-number-test.true, ap length e)) (ap (λ (ns : List ℕ). get_or ns c.loop-number.number-index 0) e) in
    λ κs lives. (omega (arith, small), (lives, (ty_read _ _ _ _ _ (ty.Simple simple.Bool) grows c.requires e c.loop-number-test.true).known))

pub read_tys-loop-number-preserved : goal.read_tys-loop-number-preserved
read_tys-loop-number-preserved g t c =
    let e = c.deref-number-items.ensures.value ∙ c.in_ok-numbers.ensures.numbers in
    let at = ty_read _ _ _ _ _ (ty.Simple simple.Bool) c.loop-number.invariant.reads.grows c.requires e c.loop-number-test.true in
    record {
      reads = Reads-trans c.loop-number.invariant.reads c.in_ok-ty.ensures.reads;
      agrees = c.in_ok-ty.ensures.agrees;
      trees = one_more _ _ _ _ (ty.Simple simple.Bool) _ (omega (arith, c.loop-number-test.true, ap length e, tys_length _ _ c.requires)) c.loop-number.invariant.trees (search rules) (c.in_ok-ty.ensures.tree ∙ at.is);
    }

pub read_args-read_arg-requires : goal.read_args-read_arg-requires
read_args-read_arg-requires g t c =
    let e = c.deref-number-items.ensures.value ∙ c.in_ok-numbers.ensures.numbers in
    let grows = c.loop-number.invariant.reads.grows in
    let small = arg_item-size _ _ _ _ _ grows c.requires (omega (arith, c.loop-number-test.true, ap length e)) (ap (λ (ns : List ℕ). get_or ns c.loop-number.number-index 0) e) in
    λ κs lives. (omega (arith, small), (lives, (arg_read _ _ _ _ _ (arg.Typed (ty.Simple simple.Bool)) grows c.requires e c.loop-number-test.true).known))

pub read_args-loop-number-preserved : goal.read_args-loop-number-preserved
read_args-loop-number-preserved g t c =
    let e = c.deref-number-items.ensures.value ∙ c.in_ok-numbers.ensures.numbers in
    let at = arg_read _ _ _ _ _ (arg.Typed (ty.Simple simple.Bool)) c.loop-number.invariant.reads.grows c.requires e c.loop-number-test.true in
    record {
      reads = Reads-trans c.loop-number.invariant.reads c.in_ok-arg.ensures.reads;
      agrees = c.in_ok-arg.ensures.agrees;
      trees = one_more _ _ _ _ (arg.Typed (ty.Simple simple.Bool)) _ (omega (arith, c.loop-number-test.true, ap length e, args_length _ _ c.requires)) c.loop-number.invariant.trees (search rules) (c.in_ok-arg.ensures.tree ∙ at.is);
    }

pub read_values-read_value-requires : goal.read_values-read_value-requires
read_values-read_value-requires g t c =
    let e = c.deref-number-items.ensures.value ∙ c.in_ok-numbers.ensures.numbers in
    let grows = c.loop-number.invariant.reads.grows in
    let small = value_item-size _ _ _ _ _ grows c.requires (omega (arith, c.loop-number-test.true, ap length e)) (ap (λ (ns : List ℕ). get_or ns c.loop-number.number-index 0) e) in
    λ κs lives. (omega (arith, small), (lives, (value_read _ _ _ _ _ (value.OfType (ty.Simple simple.Bool)) grows c.requires e c.loop-number-test.true).known))

pub read_values-loop-number-preserved : goal.read_values-loop-number-preserved
read_values-loop-number-preserved g t c =
    let e = c.deref-number-items.ensures.value ∙ c.in_ok-numbers.ensures.numbers in
    let at = value_read _ _ _ _ _ (value.OfType (ty.Simple simple.Bool)) c.loop-number.invariant.reads.grows c.requires e c.loop-number-test.true in
    record {
      reads = Reads-trans c.loop-number.invariant.reads c.in_ok-value.ensures.reads;
      agrees = c.in_ok-value.ensures.agrees;
      trees = one_more _ _ _ _ (value.OfType (ty.Simple simple.Bool)) _ (omega (arith, c.loop-number-test.true, ap length e, values_length _ _ c.requires)) c.loop-number.invariant.trees (search rules) (c.in_ok-value.ensures.tree ∙ at.is);
    }

pub read_tys-returns-clause-trees : goal.read_tys-returns-clause-trees
read_tys-returns-clause-trees g t c =
    let e = c.deref-number-items.ensures.value ∙ c.in_ok-numbers.ensures.numbers in
    c.loop-number.invariant.trees ∙ take_all _ _ (omega (arith, c.loop-number-test.false, ap length e, tys_length _ _ c.requires))

pub read_args-returns-clause-trees : goal.read_args-returns-clause-trees
read_args-returns-clause-trees g t c =
    let e = c.deref-number-items.ensures.value ∙ c.in_ok-numbers.ensures.numbers in
    c.loop-number.invariant.trees ∙ take_all _ _ (omega (arith, c.loop-number-test.false, ap length e, args_length _ _ c.requires))

pub read_values-returns-clause-trees : goal.read_values-returns-clause-trees
read_values-returns-clause-trees g t c =
    let e = c.deref-number-items.ensures.value ∙ c.in_ok-numbers.ensures.numbers in
    c.loop-number.invariant.trees ∙ take_all _ _ (omega (arith, c.loop-number-test.false, ap length e, values_length _ _ c.requires))

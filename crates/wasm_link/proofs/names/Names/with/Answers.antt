use Rattle.std.proofs.Common.{◌≡◌, ◌<◌, ◌++◌, ◌∷◌, [], length, ◌∙◌, ap, sym, subst, arith}
use Rattle.wasm_link.specs.Names.{number_of}
use Rattle.wasm_link.specs.NameTable.{AreNumbered}
use Rattle.wasm_link.proofs.NameLemmas.{AreNumbered-known, AreNumbered-new, number_within}
use Rattle.wasm_link.proofs.names.Names.with.Goals as goal
use Rattle.wasm_link.proofs.names.Names.with.Goals.{then-number-len+in_ok-enter, else-number-len}

pub invariant_of-result : goal.invariant_of-result
invariant_of-result c =
    let names = c.self.inside.names.items in
    let name = c.args.name.now in
    let items : c.push.new.self.items ≡ names ++ name ∷ [] = c.in_ok-push.ensures.items ∙ ap (λ n. names ++ n ∷ []) (c.of.ensures ∙ c.in_ok-from_slice.ensures.items) in
    let number : number_of names name ≡ c.find-number.result = ap (λ ns. number_of ns name) c.self.view_is ∙ sym c.find-number.ensures in
    let len : c.len.result ≡ length names = omega (arith, c.len.ensures, c.self.inside.names.ok.0) in
    let within = number_within names name in
    elim c.if-number-len.branch [
      | then-number-len+in_ok-enter w ↦
          let absent : number_of names name ≡ length names = number ∙ w.if-number-len.true ∙ len in
          subst (λ p. AreNumbered p c.push.new.self.items) (sym w.places-is)
          (subst (AreNumbered w.enter.new.places) (sym items)
          (AreNumbered-new c.self.inside.places w.enter.new.places names name c.find-number.result c.self.invariant absent (sym number ∙ absent) w.in_ok-enter.ensures))
      | else-number-len w ↦
          let differ = w.if-number-len.false in
          let there : number_of names name < length names = omega (arith, within, number, len, differ) in
          subst (λ p. AreNumbered p c.push.new.self.items) (sym w.places-is)
          (subst (AreNumbered c.self.inside.places) (sym items) (AreNumbered-known c.self.inside.places names name c.self.invariant there))
    ]

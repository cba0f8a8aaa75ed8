use Rattle.std.proofs.Common.{◌≡◌, ◌∙◌, ap, subst, sym, Some, List, ℕ, Option, if◌then◌else◌, IfOk}
use Rattle.std.specs.Str.{bytes_eq}
use Rattle.pool_plain.specs.Rows.{place_in}
use Rattle.pool_plain.proofs.RowLemmas.{place_in-inserted}
use Rattle.pool_plain.proofs.pool.add.Goals as goal
use Rattle.pool_plain.proofs.pool.add.Goals.{in-Ok, in-Err}

pub returns-clause-places : goal.returns-clause-places
returns-clause-places c =
    let P = λ (n : ℕ). (cs : List ℕ) → place_in c.insert.new.self cs ≡ (if bytes_eq c.args.key.now cs then Some n else place_in c.args.places.now cs) in
    elim c.match-insert.branch [
      | in-Ok w ↦ subst (λ r. IfOk r P) (sym w.result-is)
          (place_in-inserted c.in_ok-copy.copy.items c.args.key.now c.args.places.now c.insert.new.self _ c.in_ok-copy.ensures.items w.in-Ok.ensures.updates)
      | in-Err w ↦ subst (λ r. IfOk r P) (sym w.result-is) tt
    ]

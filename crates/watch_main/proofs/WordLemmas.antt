-- The words that are served.
use Rattle.std.proofs.Common.{◌≡◌, ℕ, List, Option, None, Some, Result, Ok, Err, IfOk, IfErr, refl, ap, sym, ◌∙◌}
use Rattle.std.specs.Prelude.{IsSome}
use Rattle.std.specs.Option.{option_map}
use Rattle.zw_base.specs.declared.status.Status.{Status}
use Rattle.zw_base.specs.declared.status.Status.TheVariants as status
use Rattle.watch_main.specs.declared.words.Words.{Words}
use Rattle.watch_main.specs.Steps.{NamesPath, Serves}
use Rattle.watch_main.specs.Words.{once_over}

-- words whose path could be copied, or not
pub over_path : (r : Result Words Status) (named : Option (List ℕ)) (path : List ℕ) → named ≡ Some path → IfOk r (λ words. words ≡ once_over path) → IfErr r (λ s. s ≡ status.Memory) → Serves r (option_map once_over named)
over_path (Ok words) named path e is f = ap (option_map once_over) e ∙ ap Some (sym is)
over_path (Err s) named path e f is = rw (is, e) refl

-- words that name no path
pub no_path : (s : Status) (named : Option (List ℕ)) → NamesPath (Err s) named → Serves (Err s) (option_map once_over named)
no_path status.Usage named none = rw none refl
no_path status.Memory (Some path) some = refl
no_path status.Memory None some = absurd (cc)
no_path status.Module named h = absurd h
no_path status.Diagnostics named h = absurd h
no_path status.FileFault named h = absurd h
no_path (status.NoFile path) named h = absurd h
no_path status.WriteFault named h = absurd h
no_path (status.BadScript line reason) named h = absurd h
no_path status.ReadFault named h = absurd h
no_path (status.Limit which number) named h = absurd h

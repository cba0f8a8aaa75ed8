-- Whether a command may be carried out, by the number of commands and what one more file passes.
use Rattle.std.proofs.Common.{◌≡◌, ℕ, ◌+◌, nat_lt, Bool, true, false, List, ◌∷◌, Option, Some, Result, Ok, Err, refl, sym, ◌∙◌, if◌then◌else◌, is_ok}
use Rattle.std.specs.List.{list_any}
use Rattle.zw_base.specs.declared.limits.Limits.{Limits}
use Rattle.zw_base.specs.declared.status.Which.{Which}
use Rattle.zw_base.specs.declared.status.Which.TheVariants.{Commands}
use Rattle.zw_base.specs.Limits.{Sizes, has_path, others, tally, exceeded, passed_beside, AreWithin}
use Rattle.zw_base.proofs.SizeLemmas.{one_more_of, others_not_over, within_not_over}
use Rattle.script_read.specs.declared.command.Refusal.{Refusal}
use Rattle.script_read.specs.declared.command.Refusal.TheVariants.{Over}
use Rattle.script_read.specs.declared.command.Request.TheVariants as request
use Rattle.script_read.specs.Sizes.{unless_over, allowed}

first_over : (a : Bool) (more : Option Which) → unless_over (if a then Some Commands else more) ≡ (if a then Err (Over Commands) else unless_over more)
first_over true more = refl
first_over false more = refl

-- one more file beside the others
one_more : (limits : Limits) (n : ℕ) (path : List ℕ) (len : ℕ) (files : Sizes) → AreWithin limits files →
    unless_over (exceeded limits n ((path, len) ∷ others path files))
    ≡ (if nat_lt limits.commands n then Err (Over Commands) else unless_over (passed_beside limits (tally (others path files)) len))
one_more limits n path len files w = rw (first_over, one_more_of limits path len files w) refl

-- without a path only the number of commands can pass its limit
one_less : (limits : Limits) (n : ℕ) (path : List ℕ) (files : Sizes) → AreWithin limits files →
    unless_over (exceeded limits n (others path files)) ≡ (if nat_lt limits.commands n then Err (Over Commands) else Ok tt)
one_less limits n path files w = rw (first_over, others_not_over limits path files w) refl

-- and so with the same files
the_same : (limits : Limits) (n : ℕ) (files : Sizes) → AreWithin limits files →
    unless_over (exceeded limits n files) ≡ (if nat_lt limits.commands n then Err (Over Commands) else Ok tt)
the_same limits n files w = rw (first_over, within_not_over limits files w) refl

refuted : false ≡ true → ⊥
refuted h = cc

within_commands : (b : Bool) (first : Result (Unit {0}) Refusal) → first ≡ (if b then Err (Over Commands) else Ok tt) → is_ok first ≡ true → b ≡ false
within_commands true first is h = absurd (refuted (rw is at h))
within_commands false first is h = refl

pub allowed_file : (limits : Limits) (n : ℕ) (path : List ℕ) (len : ℕ) (files : Sizes) (first result : Result (Unit {0}) Refusal) → AreWithin limits files →
    first ≡ (if nat_lt limits.commands (n + 1) then Err (Over Commands) else Ok tt) → is_ok first ≡ true → result ≡ unless_over (passed_beside limits (tally (others path files)) len) →
    result ≡ allowed limits n files (request.File path len)
allowed_file limits n path len files first result w some ok is = is ∙ sym (rw (one_more limits (n + 1) path len files w, within_commands _ first some ok) refl)

pub allowed_drop : (limits : Limits) (n : ℕ) (path : List ℕ) (files : Sizes) (result : Result (Unit {0}) Refusal) → AreWithin limits files →
    list_any (has_path path) files ≡ true → result ≡ (if nat_lt limits.commands (n + 1) then Err (Over Commands) else Ok tt) →
    result ≡ allowed limits n files (request.Drop path)
allowed_drop limits n path files result w held is = is ∙ sym (rw held (one_less limits (n + 1) path files w))

pub allowed_update : (limits : Limits) (n : ℕ) (files : Sizes) (result : Result (Unit {0}) Refusal) → AreWithin limits files →
    result ≡ (if nat_lt limits.commands (n + 1) then Err (Over Commands) else Ok tt) → result ≡ allowed limits n files request.Update
allowed_update limits n files result w is = is ∙ sym (the_same limits (n + 1) files w)

-- What a line and the bytes behind it say of the bytes that they were found in.
use Rattle.std.proofs.Common.{◌≡◌, ℕ, ◌+◌, ◌<◌, ◌≤◌, ◌==◌, nat_le, Bool, true, false, ◌||◌, List, [], ◌∷◌, ◌++◌, length, take, drop, get_or, Result, Ok, Err, refl, sym, ap, suc, zero, arith, add-one, if◌then◌else◌, drop-cons, cond}
use Rattle.std.proofs.lemmas.Bool.Decides.{nat_tests}
use Rattle.std.proofs.lemmas.List.{take-append-drop, length-take-le}
use Rattle.std.proofs.lemmas.List.Sums.{sum_by-append, sum_by-cons}
use Rattle.std.proofs.lemmas.Bool.{eqb-true}
use Rattle.std.specs.List.{list_any, before_first, after_first, position_or_len}
use Rattle.zw_base.specs.declared.reason.Reason.TheVariants.{LineTooLong, CutShort, MissingEnd}
use Rattle.script_read.specs.declared.command.Command.{Command}
use Rattle.script_read.specs.declared.command.Command.TheVariants as command
use Rattle.zw_base.specs.declared.limits.Limits.{Limits}
use Rattle.script_read.specs.declared.command.Request.{Request}
use Rattle.script_read.specs.declared.command.Request.TheVariants as request
use Rattle.script_read.specs.declared.command.Refusal.{Refusal}
use Rattle.script_read.specs.declared.command.Refusal.TheVariants.{End, Bad}
use Rattle.script_read.specs.Answers.{◌>>=◌}
use Rattle.script_read.specs.Line.{is_line_end, HasNoEnd, IsParted, line_at, line_ends}
use Rattle.script_read.specs.Script.{content_at, completed, judged, next_of}
use Rattle.zw_base.specs.Limits.{Sizes}
use Rattle.script_read.specs.Reads.{lines_of}
use Rattle.script_read.proofs.Lines.{neither}

-- two answers with pairs
pub ok_parts : {A B : Type 0} (x y : A × B) (r s : Result (A × B) Refusal) → r ≡ Ok x → s ≡ Ok y → r ≡ s → (x.0 ≡ y.0) × (x.1 ≡ y.1)
ok_parts x y r s e f h = let p : x ≡ y = cc in (ap (λ z. z.0) p, ap (λ z. z.1) p)

first_yes : (b : ℕ) (bs : List ℕ) → is_line_end b ≡ true → position_or_len is_line_end (b ∷ bs) ≡ 0
first_yes b bs e = rw e refl

first_no : (b : ℕ) (bs : List ℕ) → is_line_end b ≡ false → position_or_len is_line_end (b ∷ bs) ≡ suc (position_or_len is_line_end bs)
first_no b bs e = rw e (omega arith)

before_no : (b : ℕ) (bs : List ℕ) → is_line_end b ≡ false → before_first is_line_end (b ∷ bs) ≡ b ∷ before_first is_line_end bs
before_no b bs e = ap (λ n. take n (b ∷ bs)) (first_no b bs e)

after_no : (b : ℕ) (bs : List ℕ) → is_line_end b ≡ false → after_first is_line_end (b ∷ bs) ≡ after_first is_line_end bs
after_no b bs e =
    let next : position_or_len is_line_end (b ∷ bs) + 1 ≡ suc (position_or_len is_line_end bs + 1) = omega (arith, first_no b bs e) in
    ap (λ n. drop n (b ∷ bs)) next

after_yes : (b : ℕ) (bs : List ℕ) → is_line_end b ≡ true → after_first is_line_end (b ∷ bs) ≡ bs
after_yes b bs e = ap (λ n. drop (n + 1) (b ∷ bs)) (first_yes b bs e)

before_yes : (b : ℕ) (bs : List ℕ) → is_line_end b ≡ true → before_first is_line_end (b ∷ bs) ≡ []
before_yes b bs e = ap (λ n. take n (b ∷ bs)) (first_yes b bs e)

pub record HasLine (n : ℕ) (bytes : List ℕ) : Type 0 where
  pub parted : IsParted bytes (before_first is_line_end bytes) (after_first is_line_end bytes)
  pub short : length (before_first is_line_end bytes) < n

line_step : (b : ℕ) (bs : List ℕ) (n : ℕ) (here : Bool) → is_line_end b ≡ here → ((list_any is_line_end (take n bs) ≡ true) → HasLine n bs) → (here || list_any is_line_end (take n bs)) ≡ true → HasLine (suc n) (b ∷ bs)
line_step b bs n true e more h =
    let is : b ≡ 10 = eqb-true b 10 e in
    record {
      parted = record {
        whole = rw (before_yes b bs e, after_yes b bs e, is) refl;
        none = rw (before_yes b bs e) refl;
      };
      short = rw (before_yes b bs e) (omega arith);
    }
line_step b bs n false e more h = let found : HasLine n bs = more h in
    record {
      parted = record {
        whole = rw (before_no b bs e, after_no b bs e) (ap (λ x. b ∷ x) found.parted.whole);
        none = rw (before_no b bs e, e) found.parted.none;
      };
      short = rw (before_no b bs e) (omega (arith, found.short));
    }

pub line_here : (bytes : List ℕ) (n : ℕ) → list_any is_line_end (take n bytes) ≡ true → HasLine n bytes
line_here [] zero h = cc
line_here [] (suc n) h = cc
line_here (b ∷ bs) zero h = cc
line_here (b ∷ bs) (suc n) h = line_step b bs n (is_line_end b) refl (line_here bs n) h

-- a line that is found
pub record IsLine (most : ℕ) (bytes line rest : List ℕ) : Type 0 where
  pub parted : IsParted bytes line rest
  pub short : length line ≤ most

-- what the three tests say of a line
abbrev line_by : Bool → Bool → Bool → List ℕ → List ℕ → Result (List ℕ × List ℕ) Refusal
line_by found long empty front behind =
    if found then Ok (front, behind) else if long then Err (Bad LineTooLong) else if empty then Err End else Err (Bad CutShort)

line_cases : (most : ℕ) (bytes line rest : List ℕ) (found long empty : Bool) → list_any is_line_end (take (most + 1) bytes) ≡ found →
    line_by found long empty (before_first is_line_end bytes) (after_first is_line_end bytes) ≡ Ok (line, rest) → IsLine most bytes line rest
line_cases most bytes line rest true long empty e h =
    let here : HasLine (most + 1) bytes = line_here bytes (most + 1) e in
    let parts = ok_parts (before_first is_line_end bytes, after_first is_line_end bytes) (line, rest) _ _ refl refl h in
    record {
      parted = rw (← parts.0, ← parts.1) here.parted;
      short = rw (← parts.0) (omega (arith, here.short));
    }
line_cases most bytes line rest false true empty e h = cc
line_cases most bytes line rest false false true e h = cc
line_cases most bytes line rest false false false e h = cc

pub line_shape : (most : ℕ) (bytes line rest : List ℕ) → line_at most bytes ≡ Ok (line, rest) → IsLine most bytes line rest
line_shape most bytes line rest h = line_cases most bytes line rest _ _ _ refl h

-- and the two tests of the bytes behind it
abbrev content_by : Bool → Bool → List ℕ → List ℕ → Result (List ℕ × List ℕ) Refusal
content_by short ended front behind = if short then Err (Bad CutShort) else if ended then Ok (front, behind) else Err (Bad MissingEnd)

content_cases : (len : ℕ) (bytes content rest : List ℕ) (short ended : Bool) → nat_le (length bytes) len ≡ short → (get_or bytes len 0 == 10) ≡ ended →
    content_by short ended (take len bytes) (drop (len + 1) bytes) ≡ Ok (content, rest) →
    (bytes ≡ content ++ 10 ∷ rest) × (length content ≡ len)
content_cases len bytes content rest true ended e f h = cc
content_cases len bytes content rest false false e f h = cc
content_cases len bytes content rest false true e f h =
    let more : len < length bytes = grind (arith, nat_tests) in
    let parts = ok_parts (take len bytes, drop (len + 1) bytes) (content, rest) _ _ refl refl h in
    let front : take len bytes ≡ content = parts.0 in
    let behind : drop (len + 1) bytes ≡ rest = parts.1 in
    let is : get_or bytes len 0 ≡ 10 = eqb-true _ _ f in
    let at : drop len bytes ≡ 10 ∷ rest = rw (← is, ← behind, add-one len) (drop-cons bytes len 0 more) in
    (sym (rw (← front, ← at) (take-append-drop len bytes)), rw (← front) (length-take-le len bytes (omega arith)))

pub content_shape : (len : ℕ) (bytes content rest : List ℕ) → content_at len bytes ≡ Ok (content, rest) → (bytes ≡ content ++ 10 ∷ rest) × (length content ≡ len)
content_shape len bytes content rest h = content_cases len bytes content rest _ _ refl refl h

pub no_line_ends : (line : List ℕ) → HasNoEnd line → line_ends line ≡ 0
no_line_ends [] h = refl
no_line_ends (b ∷ line) h =
    let both : (is_line_end b ≡ false) × (list_any is_line_end line ≡ false) = neither _ _ h in
    let none : cond {A = ℕ} (is_line_end b) 1 0 ≡ 0 = rw both.0 refl in
    omega (arith, sum_by-cons (λ x. cond (is_line_end x) 1 0) b line, none, no_line_ends line both.1)

pub line_ends_behind : (front rest : List ℕ) → line_ends (front ++ 10 ∷ rest) ≡ line_ends front + 1 + line_ends rest
line_ends_behind front rest = omega (arith, sum_by-append (λ x. cond (is_line_end x) 1 0) front (10 ∷ rest), sum_by-cons (λ x. cond (is_line_end x) 1 0) 10 rest)

pub bind_ok : {A B : Type 0} (r : Result A Refusal) (next : A → Result B Refusal) (y : B) → (r >>= next) ≡ Ok y → (x : A) × (r ≡ Ok x) × (next x ≡ Ok y)
bind_ok (Ok x) next y h = (x, refl, h)
bind_ok (Err e) next y h = cc

file_ends : (path : List ℕ) (len : ℕ) (bytes content rest : List ℕ) (given : Command) (left : List ℕ) → content_at len bytes ≡ Ok (content, rest) →
    (command.File path content ≡ given) × (rest ≡ left) → line_ends bytes + 1 ≡ lines_of given + line_ends left
file_ends path len bytes content rest given left found same =
    let shape = content_shape len bytes content rest found in
    rw (← same.0, ← same.1, shape.0, line_ends_behind content rest) (omega arith)

moved_ends : (text : Command) (bytes : List ℕ) (given : Command) (left : List ℕ) → lines_of text ≡ 1 → (text ≡ given) × (bytes ≡ left) → line_ends bytes + 1 ≡ lines_of given + line_ends left
moved_ends text bytes given left one same = rw (← same.0, ← same.1, one) (omega arith)

completed_ends : (asked : Request) (bytes : List ℕ) (given : Command) (rest : List ℕ) → completed asked bytes ≡ Ok (given, rest) → line_ends bytes + 1 ≡ lines_of given + line_ends rest
completed_ends (request.File path len) bytes given rest h =
    let found = bind_ok (content_at len bytes) (λ found. Ok (command.File path found.0, found.1)) (given, rest) h in
    file_ends path len bytes found.0.0 found.0.1 given rest found.1 (ok_parts (command.File path found.0.0, found.0.1) (given, rest) _ _ refl refl found.2)
completed_ends (request.Drop path) bytes given rest h = moved_ends (command.Drop path) bytes given rest refl (ok_parts (command.Drop path, bytes) (given, rest) _ _ refl refl h)
completed_ends request.Update bytes given rest h = moved_ends command.Update bytes given rest refl (ok_parts (command.Update, bytes) (given, rest) _ _ refl refl h)

-- a command's text has the LF bytes that stand between what was left before it and after it
pub next_ends : (limits : Limits) (commands : ℕ) (files : Sizes) (bytes : List ℕ) (given : Command) (rest : List ℕ) →
    next_of limits commands files bytes ≡ Ok (given, rest) → line_ends bytes ≡ lines_of given + line_ends rest
next_ends limits commands files bytes given rest h =
    let line = bind_ok (line_at limits.line bytes) (λ found. judged limits commands files found.0 >>= λ asked. completed asked found.1) (given, rest) h in
    let asked = bind_ok (judged limits commands files line.0.0) (λ asked. completed asked line.0.1) (given, rest) line.2 in
    let shape = line_shape limits.line bytes line.0.0 line.0.1 line.1 in
    rw (shape.parted.whole, line_ends_behind, no_line_ends line.0.0 shape.parted.none) (omega (arith, completed_ends asked.0 line.0.1 given rest asked.2))

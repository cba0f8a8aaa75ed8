-- The stages of an answer on the bytes that are left: the line, its words, the limits, and the bytes behind it.
use Rattle.std.proofs.Common.{◌≡◌, ◌≢◌, ℕ, ◌+◌, ◌<◌, ◌≤◌, ◌==◌, nat_lt, nat_le, Bool, true, false, ◌||◌, ◌⊎◌, inl, inr, List, [], ◌∷◌, ◌++◌, length, take, drop, slice_index, Option, None, Some, Result, Ok, Err, refl, sym, ◌∙◌, ap, arith, if◌then◌else◌, append_assoc, length-append, add-one, drop-cons}
use Rattle.std.proofs.lemmas.Bool.{eqb-true, eqb-false}
use Rattle.std.proofs.lemmas.Bool.Decides.{nat_tests}
use Rattle.std.proofs.lemmas.List.{take-append-drop, length-take-le, take_all}
use Rattle.std.proofs.Math.Seq.{take-append_seam}
use Rattle.std.proofs.lemmas.List.Folds.{list_any-append}
use Rattle.std.specs.List.{list_any, before_first, after_first}
use Rattle.zw_base.specs.declared.reason.Reason.TheVariants.{LineTooLong, CutShort, AbsentPath, MissingEnd}
use Rattle.zw_base.specs.declared.status.Which.TheVariants.{Commands, FileBytes, Files, TotalBytes}
use Rattle.script_read.specs.declared.command.Command.{Command}
use Rattle.script_read.specs.declared.command.Command.TheVariants as command
use Rattle.zw_base.specs.declared.limits.Limits.{Limits}
use Rattle.script_read.specs.declared.command.Refusal.{Refusal}
use Rattle.script_read.specs.declared.command.Refusal.TheVariants as refusal
use Rattle.script_read.specs.declared.command.Request.{Request}
use Rattle.script_read.specs.declared.command.Request.TheVariants as request
use Rattle.script_read.specs.Line.{is_line_end, IsParted, line_at}
use Rattle.script_read.specs.Script.{content_at, completed}
use Rattle.zw_base.specs.Limits.{Sizes, is_over}
use Rattle.script_read.specs.Sizes.{files_after, is_absent, unless_over, allowed}
use Rattle.script_read.specs.Words.{request_of}
use Rattle.script_read.specs.Grammar.{APath, ALength, Asks, content_len, request_for, behind_line}
use Rattle.script_read.specs.Causes.{Cause, LongLine, CutLine, FileAbsent, Over, CutContent, UnendedContent, Stands, NoneStands, IsLong, IsCut, InLine, IsUnknown, HasWrongWords, HasWrong, Asking, IsCutContent, IsUnended}
use Rattle.script_read.proofs.Lines.{line_found, end_in_front}
use Rattle.script_read.proofs.Shapes.{ok_parts, line_here}
use Rattle.script_read.proofs.Contents.{get_seam}
use Rattle.script_read.proofs.Firsts.{Stage, stage_then, same_stage}
use Rattle.script_read.proofs.Requests.{LineStands, word_causes, line_stage, asks_once}

-- each of two properties gives the other
abbrev Decided : Type 0 → Type 0 → Type 0
Decided P Q = (P → Q) × (Q → P)

-- ---- the line

abbrev pub line_causes : List Cause
line_causes = LongLine ∷ CutLine ∷ []

-- bytes begin with one line
pub parted_once : (bytes a b x y : List ℕ) → IsParted bytes a x → IsParted bytes b y → (a ≡ b) × (x ≡ y)
parted_once bytes a b x y h g =
    let e : line_at (length a + length b) bytes ≡ Ok (a, x) = rw h.whole (line_found (length a + length b) a x h.none (omega arith)) in
    let f : line_at (length a + length b) bytes ≡ Ok (b, y) = rw g.whole (line_found (length a + length b) b y g.none (omega arith)) in
    ok_parts (a, x) (b, y) _ _ e f refl

-- what holds of the line and of the bytes behind it
pub in_line : (bytes line rest : List ℕ) (holds : List ℕ → List ℕ → Type 0) → IsParted bytes line rest → Decided (holds line rest) (InLine bytes holds)
in_line bytes line rest holds h = (
  λ here. (line, rest, h, here),
  λ found. let same = parted_once bytes line found.0 rest found.1 h found.2 in rw (same.0, same.1) found.3,
)

pub asking : (bytes line rest : List ℕ) (asked : Request) (holds : Request → List ℕ → Type 0) → IsParted bytes line rest → Asks line asked → Decided (holds asked rest) (Asking bytes holds)
asking bytes line rest asked holds h asks =
    let inner = in_line bytes line rest (λ line rest. (asked : Request) × Asks line asked × holds asked rest) h in (
      λ here. inner.0 (asked, asks, here),
      λ found. let there = inner.1 found in rw (asks_once line asked there.0 asks there.1) there.2,
    )

not_long : (most : ℕ) (bytes line rest : List ℕ) → IsParted bytes line rest → length line ≤ most → IsLong most bytes → ⊥
not_long most bytes line rest h fits (front, behind, is, len, none) =
    let there : list_any is_line_end (take (most + 1) (line ++ 10 ∷ rest)) ≡ true = end_in_front line rest (most + 1) (omega arith) in
    let same : take (most + 1) (line ++ 10 ∷ rest) ≡ front = rw (← len) (ap (λ l. take (length front) l) (sym h.whole ∙ is) ∙ take-append_seam front behind) in
    let wrong : list_any is_line_end front ≡ true = rw same at there in
    cc

or_end : (a : Bool) → (a || true) ≡ true
or_end true = refl
or_end false = refl

not_cut : (bytes line rest : List ℕ) → IsParted bytes line rest → IsCut bytes → ⊥
not_cut bytes line rest h (some, none) =
    let there : list_any is_line_end (line ++ 10 ∷ rest) ≡ true = list_any-append is_line_end line (10 ∷ rest) ∙ or_end _ in
    let wrong : list_any is_line_end (line ++ 10 ∷ rest) ≡ false = rw h.whole at none in
    cc

-- the whole line, or the first cause in it, or the end
abbrev pub LineStage : Limits → ℕ → Sizes → List ℕ → Result (List ℕ × List ℕ) Refusal → Type 0
LineStage limits commands files bytes r =
    ((r ≡ Err refusal.End) × (bytes ≡ [])) ⊎ Stage (Stands limits commands files bytes) line_causes (λ found. IsParted bytes found.0 found.1) r

no_bytes : (bytes : List ℕ) → (length bytes == 0) ≡ true → bytes ≡ []
no_bytes [] e = refl
no_bytes (b ∷ bytes) e = let none : length (b ∷ bytes) ≡ 0 = eqb-true _ _ e in absurd (omega (arith, none))

some_bytes : (bytes : List ℕ) → (length bytes == 0) ≡ false → bytes ≢ []
some_bytes [] e is = cc
some_bytes (b ∷ bytes) e is = cc

line_cases : (limits : Limits) (commands : ℕ) (files : Sizes) (bytes : List ℕ) (found long empty : Bool) →
    list_any is_line_end (take (limits.line + 1) bytes) ≡ found → nat_lt limits.line (length bytes) ≡ long → (length bytes == 0) ≡ empty →
    LineStage limits commands files bytes (if found then Ok (before_first is_line_end bytes, after_first is_line_end bytes) else if long then Err (refusal.Bad LineTooLong) else if empty then Err refusal.End else Err (refusal.Bad CutShort))
line_cases limits commands files bytes true long empty e f g =
    let here = line_here bytes (limits.line + 1) e in
    inr (here.parted, (not_long limits.line bytes _ _ here.parted (omega (arith, here.short)), (not_cut bytes _ _ here.parted, tt)))
line_cases limits commands files bytes false true empty e f g =
    let more : limits.line < length bytes = grind (arith, nat_tests) in
    inr (
      LongLine,
      refl,
      record {
        before = [];
        after = CutLine ∷ [];
        in_order = refl;
        here = (take (limits.line + 1) bytes, drop (limits.line + 1) bytes, sym (take-append-drop (limits.line + 1) bytes), length-take-le (limits.line + 1) bytes (omega arith), e);
        none_before = tt;
      },
    )
line_cases limits commands files bytes false false true e f g = inl (refl, no_bytes bytes g)
line_cases limits commands files bytes false false false e f g =
    let few : length bytes ≤ limits.line = grind (arith, nat_tests) in
    let all : take (limits.line + 1) bytes ≡ bytes = take_all _ _ (omega arith) in
    inr (
      CutLine,
      refl,
      record {
        before = LongLine ∷ [];
        after = [];
        in_order = refl;
        here = (some_bytes bytes g, rw all at e);
        none_before = (λ long. omega (arith, few, ap (λ l. length l) long.2, length-append long.0 long.1, long.3), tt);
      },
    )

pub line_first : (limits : Limits) (commands : ℕ) (files : Sizes) (bytes : List ℕ) → LineStage limits commands files bytes (line_at limits.line bytes)
line_first limits commands files bytes = line_cases limits commands files bytes _ _ _ refl refl refl

-- ---- its words

pub words_stage : (limits : Limits) (commands : ℕ) (files : Sizes) (bytes line rest : List ℕ) → IsParted bytes line rest →
    Stage (Stands limits commands files bytes) word_causes (Asks line) (request_of line)
words_stage limits commands files bytes line rest h =
    same_stage (LineStands line) (Stands limits commands files bytes) word_causes (Asks line) (request_of line) (
      in_line bytes line rest (λ line rest. IsUnknown line) h,
      (
        in_line bytes line rest (λ line rest. HasWrongWords line) h,
        (
          in_line bytes line rest (λ line rest. HasWrong APath line) h,
          (in_line bytes line rest (λ line rest. HasWrong ALength line) h, tt),
        ),
      ),
    )
    (line_stage line)

-- ---- the limits

abbrev pub size_causes : List Cause
size_causes = FileAbsent ∷ Over Commands ∷ Over FileBytes ∷ Over Files ∷ Over TotalBytes ∷ []

untrue : {P : Type 0} (b : Bool) → b ≡ false → Decided (b ≡ true) P → P → ⊥
untrue b e d p = let wrong : b ≡ true = d.1 p in cc

size_cases : (stands : Cause → Type 0) (a c b f t : Bool) →
    Decided (a ≡ true) (stands FileAbsent) → Decided (c ≡ true) (stands (Over Commands)) → Decided (b ≡ true) (stands (Over FileBytes)) → Decided (f ≡ true) (stands (Over Files)) → Decided (t ≡ true) (stands (Over TotalBytes)) →
    Stage stands size_causes (λ x. Unit {0}) (if a then Err (refusal.Bad AbsentPath) else unless_over (if c then Some Commands else if b then Some FileBytes else if f then Some Files else if t then Some TotalBytes else None))
size_cases stands true c b f t da dc db df dt =
    (FileAbsent, refl, record { before = []; after = Over Commands ∷ Over FileBytes ∷ Over Files ∷ Over TotalBytes ∷ []; in_order = refl; here = da.0 refl; none_before = tt })
size_cases stands false true b f t da dc db df dt =
    (Over Commands, refl, record { before = FileAbsent ∷ []; after = Over FileBytes ∷ Over Files ∷ Over TotalBytes ∷ []; in_order = refl; here = dc.0 refl; none_before = (untrue false refl da, tt) })
size_cases stands false false true f t da dc db df dt =
    (Over FileBytes, refl, record { before = FileAbsent ∷ Over Commands ∷ []; after = Over Files ∷ Over TotalBytes ∷ []; in_order = refl; here = db.0 refl; none_before = (untrue false refl da, (untrue false refl dc, tt)) })
size_cases stands false false false true t da dc db df dt =
    (Over Files, refl, record { before = FileAbsent ∷ Over Commands ∷ Over FileBytes ∷ []; after = Over TotalBytes ∷ []; in_order = refl; here = df.0 refl; none_before = (untrue false refl da, (untrue false refl dc, (untrue false refl db, tt))) })
size_cases stands false false false false true da dc db df dt =
    (Over TotalBytes, refl, record { before = FileAbsent ∷ Over Commands ∷ Over FileBytes ∷ Over Files ∷ []; after = []; in_order = refl; here = dt.0 refl; none_before = (untrue false refl da, (untrue false refl dc, (untrue false refl db, (untrue false refl df, tt)))) })
size_cases stands false false false false false da dc db df dt =
    (tt, (untrue false refl da, (untrue false refl dc, (untrue false refl db, (untrue false refl df, (untrue false refl dt, tt))))))

pub sizes_stage : (limits : Limits) (commands : ℕ) (files : Sizes) (bytes line rest : List ℕ) (asked : Request) → IsParted bytes line rest → Asks line asked →
    Stage (Stands limits commands files bytes) size_causes (λ x. Unit {0}) (allowed limits commands files asked)
sizes_stage limits commands files bytes line rest asked h asks =
    size_cases (Stands limits commands files bytes) _ _ _ _ _
    (asking bytes line rest asked (λ asked rest. is_absent asked files ≡ true) h asks)
    (asking bytes line rest asked (λ asked rest. is_over limits (commands + 1) (files_after asked files) Commands ≡ true) h asks)
    (asking bytes line rest asked (λ asked rest. is_over limits (commands + 1) (files_after asked files) FileBytes ≡ true) h asks)
    (asking bytes line rest asked (λ asked rest. is_over limits (commands + 1) (files_after asked files) Files ≡ true) h asks)
    (asking bytes line rest asked (λ asked rest. is_over limits (commands + 1) (files_after asked files) TotalBytes ≡ true) h asks)

-- ---- the bytes behind the line

abbrev pub content_causes : List Cause
content_causes = CutContent ∷ UnendedContent ∷ []

-- the command that is completed, and the bytes that it leaves
pub record Completes (asked : Request) (bytes : List ℕ) (given : Command) (rest : List ℕ) : Type 0 where
  pub asked_is : asked ≡ request_for given
  pub bytes_are : bytes ≡ behind_line given ++ rest

abbrev IsContent : ℕ → List ℕ → List ℕ → List ℕ → Type 0
IsContent len bytes content rest = (bytes ≡ content ++ 10 ∷ rest) × (length content ≡ len)

abbrev ContentStands : Option ℕ → List ℕ → Cause → Type 0
ContentStands wanted rest CutContent = IsCutContent wanted rest
ContentStands wanted rest UnendedContent = IsUnended wanted rest
ContentStands wanted rest _ = ⊥

at_content : (len : ℕ) (bytes : List ℕ) → len < length bytes → bytes ≡ take len bytes ++ slice_index bytes len ∷ drop (len + 1) bytes
at_content len bytes more =
    let at : drop len bytes ≡ slice_index bytes len ∷ drop (len + 1) bytes = rw (add-one len) (drop-cons bytes len 0 more) in
    sym (rw (← at) (take-append-drop len bytes))

not_cut_content : (len : ℕ) (bytes : List ℕ) → len < length bytes → IsCutContent (Some len) bytes → ⊥
not_cut_content len bytes more (n, same, few) = let is : len ≡ n = cc in omega arith

not_unended : (len : ℕ) (bytes : List ℕ) → slice_index bytes len ≡ 10 → IsUnended (Some len) bytes → ⊥
not_unended len bytes e (n, content, rest, b, same, is, count, other) =
    let equal : len ≡ length content = cc in
    let there : slice_index bytes len ≡ b = rw (is, equal) (get_seam content b rest) in
    other (sym there ∙ e)

content_cases : (len : ℕ) (bytes : List ℕ) (short ended : Bool) → nat_le (length bytes) len ≡ short → (slice_index bytes len == 10) ≡ ended →
    Stage (ContentStands (Some len) bytes) content_causes (λ (found : List ℕ × List ℕ). IsContent len bytes found.0 found.1) (if short then Err (refusal.Bad CutShort) else if ended then Ok (take len bytes, drop (len + 1) bytes) else Err (refusal.Bad MissingEnd))
content_cases len bytes true ended e f =
    let few : length bytes ≤ len = grind (arith, nat_tests) in
    (CutContent, refl, record { before = []; after = UnendedContent ∷ []; in_order = refl; here = (len, refl, few); none_before = tt })
content_cases len bytes false true e f =
    let more : len < length bytes = grind (arith, nat_tests) in
    let is : slice_index bytes len ≡ 10 = eqb-true _ _ f in
    ((rw (← is) (at_content len bytes more), length-take-le len bytes (omega arith)), (not_cut_content len bytes more, (not_unended len bytes is, tt)))
content_cases len bytes false false e f =
    let more : len < length bytes = grind (arith, nat_tests) in (
      UnendedContent,
      refl,
      record {
        before = CutContent ∷ [];
        after = [];
        in_order = refl;
        here = (len, take len bytes, drop (len + 1) bytes, slice_index bytes len, refl, at_content len bytes more, length-take-le len bytes (omega arith), eqb-false _ _ f);
        none_before = (not_cut_content len bytes more, tt);
      },
    )

no_content : (rest : List ℕ) → NoneStands (ContentStands None rest) content_causes
no_content rest = (λ cut. let none : None ≡ Some cut.0 = cut.1 in cc, (λ unended. let none : None ≡ Some unended.0 = unended.4 in cc, tt))

request_stage : (asked : Request) (rest : List ℕ) → Stage (ContentStands (content_len asked) rest) content_causes (λ found. Completes asked rest found.0 found.1) (completed asked rest)
request_stage (request.File path len) rest =
    stage_then (ContentStands (Some len) rest) content_causes [] (λ found. IsContent len rest found.0 found.1) (λ found. Completes (request.File path len) rest found.0 found.1) (content_at len rest) (λ found. Ok (command.File path found.0, found.1))
    (content_cases len rest _ _ refl refl)
    (λ found is. (record { asked_is = ap (λ n. request.File path n) (sym is.1); bytes_are = is.0 ∙ sym (append_assoc found.0 (10 ∷ []) found.1) }, tt))
request_stage (request.Drop path) rest = (record { asked_is = refl; bytes_are = refl }, no_content rest)
request_stage request.Update rest = (record { asked_is = refl; bytes_are = refl }, no_content rest)

pub contents_stage : (limits : Limits) (commands : ℕ) (files : Sizes) (bytes line rest : List ℕ) (asked : Request) → IsParted bytes line rest → Asks line asked →
    Stage (Stands limits commands files bytes) content_causes (λ found. Completes asked rest found.0 found.1) (completed asked rest)
contents_stage limits commands files bytes line rest asked h asks =
    same_stage (ContentStands (content_len asked) rest) (Stands limits commands files bytes) content_causes (λ found. Completes asked rest found.0 found.1) (completed asked rest) (
      asking bytes line rest asked (λ asked rest. IsCutContent (content_len asked) rest) h asks,
      (asking bytes line rest asked (λ asked rest. IsUnended (content_len asked) rest) h asks, tt),
    )
    (request_stage asked rest)

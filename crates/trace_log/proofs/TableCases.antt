-- Tables by questions, case by case of the question.
use Rattle.std.proofs.Common.{◌≡◌, ℕ, ◌==◌, Bool, true, false, ◌&&◌, if◌then◌else◌, None, Some, refl, sym, ap, ◌∙◌}
use Rattle.std.proofs.lemmas.Bool.{eqb-true}
use Rattle.type_form.specs.declared.index.Index.{Index}
use Rattle.trace_log.specs.declared.question.TextPart.{TextPart}
use Rattle.trace_log.specs.declared.question.TextPart.TheVariants as part
use Rattle.trace_log.specs.declared.question.UnitIndex.{UnitIndex}
use Rattle.trace_log.specs.declared.question.UnitIndex.TheVariants as unit
use Rattle.trace_log.specs.declared.question.Question.{Question}
use Rattle.trace_log.specs.declared.question.Question.TheVariants as question
use Rattle.trace_log.specs.declared.tables.table.Table.{Table}
use Rattle.trace_log.specs.declared.tables.pairs.PairTable.{PairTable}
use Rattle.trace_log.specs.declared.tables.parts.PartTable.{PartTable}
use Rattle.trace_log.specs.declared.tables.units.UnitTable.{UnitTable}
use Rattle.trace_log.specs.declared.tables.questions.QuestionTable.{QuestionTable}
use Rattle.trace_log.specs.Tables.{PutsAt}
use Rattle.trace_log.specs.TableStates.{table_get, pair_get, part_get, unit_get, question_get, row_get, PutsPair, PutsPart, PutsUnit, PutsQuestion}

-- ---- parts

pub part_none : {T : Type 0} (t : PartTable T) → ((n : ℕ) → table_get t.heads n ≡ None) → ((n : ℕ) → table_get t.wholes n ≡ None) → ((n : ℕ) → table_get t.fields n ≡ None) → ((m n : ℕ) → pair_get t.blocks m n ≡ None) → (p : TextPart) → part_get t p ≡ None
unfolding part_get
part_none t a b c d (part.Head i) = a i.0
part_none t a b c d (part.Whole i) = b i.0
part_none t a b c d (part.Fields i) = c i.0
part_none t a b c d (part.Block file n) = d file.0 n

pub part_put_heads : {T : Type 0} (t : PartTable T) (r : Table T) (i : Index) (v : T) → PutsAt (table_get t.heads) (table_get r) i.0 (Some v)
    → PutsPart (part_get t) (part_get (record t { heads = r })) (part.Head i) v
unfolding part_get
part_put_heads t r i v h (part.Head j) = h j.0
part_put_heads t r i v h (part.Whole j) = refl
part_put_heads t r i v h (part.Fields j) = refl
part_put_heads t r i v h (part.Block other m) = refl

pub part_put_wholes : {T : Type 0} (t : PartTable T) (r : Table T) (i : Index) (v : T) → PutsAt (table_get t.wholes) (table_get r) i.0 (Some v)
    → PutsPart (part_get t) (part_get (record t { wholes = r })) (part.Whole i) v
unfolding part_get
part_put_wholes t r i v h (part.Head j) = refl
part_put_wholes t r i v h (part.Whole j) = h j.0
part_put_wholes t r i v h (part.Fields j) = refl
part_put_wholes t r i v h (part.Block other m) = refl

pub part_put_fields : {T : Type 0} (t : PartTable T) (r : Table T) (i : Index) (v : T) → PutsAt (table_get t.fields) (table_get r) i.0 (Some v)
    → PutsPart (part_get t) (part_get (record t { fields = r })) (part.Fields i) v
unfolding part_get
part_put_fields t r i v h (part.Head j) = refl
part_put_fields t r i v h (part.Whole j) = refl
part_put_fields t r i v h (part.Fields j) = h j.0
part_put_fields t r i v h (part.Block other m) = refl

pub part_put_blocks : {T : Type 0} (t : PartTable T) (r : PairTable T) (file : Index) (n : ℕ) (v : T) → PutsPair (pair_get t.blocks) (pair_get r) file.0 n v
    → PutsPart (part_get t) (part_get (record t { blocks = r })) (part.Block file n) v
unfolding part_get
part_put_blocks t r file n v h (part.Head j) = refl
part_put_blocks t r file n v h (part.Whole j) = refl
part_put_blocks t r file n v h (part.Fields j) = refl
part_put_blocks t r file n v h (part.Block other m) = h other.0 m

-- ---- units

pub unit_none : {T : Type 0} (t : UnitTable T) → ((n : ℕ) → table_get t.decls n ≡ None) → ((n : ℕ) → table_get t.bodies n ≡ None) → ((n : ℕ) → table_get t.error_sets n ≡ None) → ((n : ℕ) → table_get t.fields n ≡ None) → ((n : ℕ) → table_get t.codes n ≡ None) → ((m n : ℕ) → pair_get t.comptimes m n ≡ None) → (u : UnitIndex) → unit_get t u ≡ None
unfolding unit_get
unit_none t a b c d e f (unit.Decl i) = a i.0
unit_none t a b c d e f (unit.Body i) = b i.0
unit_none t a b c d e f (unit.ErrorSet i) = c i.0
unit_none t a b c d e f (unit.Fields i) = d i.0
unit_none t a b c d e f (unit.Code i) = e i.0
unit_none t a b c d e f (unit.Comptime file n) = f file.0 n

pub unit_same : {T : Type 0} (s t : UnitTable T) → ((n : ℕ) → table_get t.decls n ≡ table_get s.decls n) → ((n : ℕ) → table_get t.bodies n ≡ table_get s.bodies n) → ((n : ℕ) → table_get t.error_sets n ≡ table_get s.error_sets n) → ((n : ℕ) → table_get t.fields n ≡ table_get s.fields n) → ((n : ℕ) → table_get t.codes n ≡ table_get s.codes n) → ((m n : ℕ) → pair_get t.comptimes m n ≡ pair_get s.comptimes m n) → (u : UnitIndex) → unit_get t u ≡ unit_get s u
unfolding unit_get
unit_same s t a b c d e f (unit.Decl i) = a i.0
unit_same s t a b c d e f (unit.Body i) = b i.0
unit_same s t a b c d e f (unit.ErrorSet i) = c i.0
unit_same s t a b c d e f (unit.Fields i) = d i.0
unit_same s t a b c d e f (unit.Code i) = e i.0
unit_same s t a b c d e f (unit.Comptime file n) = f file.0 n

pub unit_put_decls : {T : Type 0} (t : UnitTable T) (r : Table T) (i : Index) (v : T) → PutsAt (table_get t.decls) (table_get r) i.0 (Some v)
    → PutsUnit (unit_get t) (unit_get (record t { decls = r })) (unit.Decl i) v
unfolding unit_get
unit_put_decls t r i v h (unit.Decl j) = h j.0
unit_put_decls t r i v h (unit.Body j) = refl
unit_put_decls t r i v h (unit.ErrorSet j) = refl
unit_put_decls t r i v h (unit.Fields j) = refl
unit_put_decls t r i v h (unit.Code j) = refl
unit_put_decls t r i v h (unit.Comptime other m) = refl

pub unit_put_bodies : {T : Type 0} (t : UnitTable T) (r : Table T) (i : Index) (v : T) → PutsAt (table_get t.bodies) (table_get r) i.0 (Some v)
    → PutsUnit (unit_get t) (unit_get (record t { bodies = r })) (unit.Body i) v
unfolding unit_get
unit_put_bodies t r i v h (unit.Decl j) = refl
unit_put_bodies t r i v h (unit.Body j) = h j.0
unit_put_bodies t r i v h (unit.ErrorSet j) = refl
unit_put_bodies t r i v h (unit.Fields j) = refl
unit_put_bodies t r i v h (unit.Code j) = refl
unit_put_bodies t r i v h (unit.Comptime other m) = refl

pub unit_put_error_sets : {T : Type 0} (t : UnitTable T) (r : Table T) (i : Index) (v : T) → PutsAt (table_get t.error_sets) (table_get r) i.0 (Some v)
    → PutsUnit (unit_get t) (unit_get (record t { error_sets = r })) (unit.ErrorSet i) v
unfolding unit_get
unit_put_error_sets t r i v h (unit.Decl j) = refl
unit_put_error_sets t r i v h (unit.Body j) = refl
unit_put_error_sets t r i v h (unit.ErrorSet j) = h j.0
unit_put_error_sets t r i v h (unit.Fields j) = refl
unit_put_error_sets t r i v h (unit.Code j) = refl
unit_put_error_sets t r i v h (unit.Comptime other m) = refl

pub unit_put_fields : {T : Type 0} (t : UnitTable T) (r : Table T) (i : Index) (v : T) → PutsAt (table_get t.fields) (table_get r) i.0 (Some v)
    → PutsUnit (unit_get t) (unit_get (record t { fields = r })) (unit.Fields i) v
unfolding unit_get
unit_put_fields t r i v h (unit.Decl j) = refl
unit_put_fields t r i v h (unit.Body j) = refl
unit_put_fields t r i v h (unit.ErrorSet j) = refl
unit_put_fields t r i v h (unit.Fields j) = h j.0
unit_put_fields t r i v h (unit.Code j) = refl
unit_put_fields t r i v h (unit.Comptime other m) = refl

pub unit_put_codes : {T : Type 0} (t : UnitTable T) (r : Table T) (i : Index) (v : T) → PutsAt (table_get t.codes) (table_get r) i.0 (Some v)
    → PutsUnit (unit_get t) (unit_get (record t { codes = r })) (unit.Code i) v
unfolding unit_get
unit_put_codes t r i v h (unit.Decl j) = refl
unit_put_codes t r i v h (unit.Body j) = refl
unit_put_codes t r i v h (unit.ErrorSet j) = refl
unit_put_codes t r i v h (unit.Fields j) = refl
unit_put_codes t r i v h (unit.Code j) = h j.0
unit_put_codes t r i v h (unit.Comptime other m) = refl

pub unit_put_comptimes : {T : Type 0} (t : UnitTable T) (r : PairTable T) (file : Index) (n : ℕ) (v : T) → PutsPair (pair_get t.comptimes) (pair_get r) file.0 n v
    → PutsUnit (unit_get t) (unit_get (record t { comptimes = r })) (unit.Comptime file n) v
unfolding unit_get
unit_put_comptimes t r file n v h (unit.Decl j) = refl
unit_put_comptimes t r file n v h (unit.Body j) = refl
unit_put_comptimes t r file n v h (unit.ErrorSet j) = refl
unit_put_comptimes t r file n v h (unit.Fields j) = refl
unit_put_comptimes t r file n v h (unit.Code j) = refl
unit_put_comptimes t r file n v h (unit.Comptime other m) = h other.0 m

-- ---- questions

pub question_none : {T : Type 0} (t : QuestionTable T) → ((p : TextPart) → part_get t.texts p ≡ None) → ((m n : ℕ) → pair_get t.names m n ≡ None) → ((n : ℕ) → table_get t.imports n ≡ None) → ((u : UnitIndex) → unit_get t.results u ≡ None) → (q : Question) → question_get t q ≡ None
unfolding question_get
question_none t a b c d (question.Text p) = a p
question_none t a b c d (question.Name x n) = b x.0 n.0
question_none t a b c d (question.Import path) = c path.0
question_none t a b c d (question.Result u) = d u

pub question_put_texts : {T : Type 0} (t : QuestionTable T) (r : PartTable T) (p : TextPart) (v : T) → PutsPart (part_get t.texts) (part_get r) p v
    → PutsQuestion (question_get t) (question_get (record t { texts = r })) (question.Text p) v
unfolding question_get
question_put_texts t r p v h (question.Text q) = h q
question_put_texts t r p v h (question.Name y m) = refl
question_put_texts t r p v h (question.Import other) = refl
question_put_texts t r p v h (question.Result w) = refl

pub question_put_names : {T : Type 0} (t : QuestionTable T) (r : PairTable T) (x n : Index) (v : T) → PutsPair (pair_get t.names) (pair_get r) x.0 n.0 v
    → PutsQuestion (question_get t) (question_get (record t { names = r })) (question.Name x n) v
unfolding question_get
question_put_names t r x n v h (question.Text q) = refl
question_put_names t r x n v h (question.Name y m) = h y.0 m.0
question_put_names t r x n v h (question.Import other) = refl
question_put_names t r x n v h (question.Result w) = refl

pub question_put_imports : {T : Type 0} (t : QuestionTable T) (r : Table T) (path : Index) (v : T) → PutsAt (table_get t.imports) (table_get r) path.0 (Some v)
    → PutsQuestion (question_get t) (question_get (record t { imports = r })) (question.Import path) v
unfolding question_get
question_put_imports t r path v h (question.Text q) = refl
question_put_imports t r path v h (question.Name y m) = refl
question_put_imports t r path v h (question.Import other) = h other.0
question_put_imports t r path v h (question.Result w) = refl

pub question_put_results : {T : Type 0} (t : QuestionTable T) (r : UnitTable T) (u : UnitIndex) (v : T) → PutsUnit (unit_get t.results) (unit_get r) u v
    → PutsQuestion (question_get t) (question_get (record t { results = r })) (question.Result u) v
unfolding question_get
question_put_results t r u v h (question.Text q) = refl
question_put_results t r u v h (question.Name y m) = refl
question_put_results t r u v h (question.Import other) = refl
question_put_results t r u v h (question.Result w) = h w

pub ruleset part_cases = (part_none, part_put_heads, part_put_wholes, part_put_fields, part_put_blocks)

pub ruleset unit_cases = (unit_none, unit_same, unit_put_decls, unit_put_bodies, unit_put_error_sets, unit_put_fields, unit_put_codes, unit_put_comptimes)

pub ruleset question_cases = (question_none, question_put_texts, question_put_names, question_put_imports, question_put_results)

-- ---- pairs

-- a row with a value more, put where it was
pub pair_put : {T : Type 0} (old new : PairTable T) (row given : Table T) (m n : ℕ) (v : T)
    → ((k : ℕ) → table_get given k ≡ row_get (table_get old.rows m) k) → PutsAt (table_get given) (table_get row) n (Some v)
    → PutsAt (table_get old.rows) (table_get new.rows) m (Some row) → PutsPair (pair_get old) (pair_get new) m n v
unfolding pair_get
pair_put {T = T} old new row given m n v g p q = λ i j.
    let rows : table_get new.rows i ≡ (if i == m then Some row else table_get old.rows i) = q i in
    ap (λ r. row_get r j) rows ∙ by_row i j (i == m) refl
  where
    by_row : (i j : ℕ) (b : Bool) → (i == m) ≡ b → row_get (if b then Some row else table_get old.rows i) j ≡ (if b && (j == n) then Some v else row_get (table_get old.rows i) j)
    by_row i j true e =
        let same : i ≡ m = eqb-true i m e in
        p j ∙ ap (λ x. if j == n then Some v else x) (g j ∙ ap (λ k. row_get (table_get old.rows k) j) (sym same))
    by_row i j false e = refl

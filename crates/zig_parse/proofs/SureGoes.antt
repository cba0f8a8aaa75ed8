-- What is sure is derived, and where the marks name its choices, the second pass goes through it.
use Rattle.std.proofs.Common.{◌≡◌, ℕ, ◌-◌, ◌<◌, Bool, true, inl, inr, List, [], ◌∷◌, ◌++◌, length, Some, refl, sym, ◌∙◌, ap, subst, arith, length-drop}
use Rattle.std.specs.Prelude.{if◌then◌else◌, ◌^◌}
use Rattle.std.proofs.lemmas.Bool.{eq-eqb}
use Rattle.zig_tree.specs.declared.token.Token.{Token}
use Rattle.zig_tree.specs.declared.token.TokenKind.{TokenKind}
use Rattle.zig_tree.specs.declared.grammar.Rule.{Rule}
use Rattle.zig_tree.specs.declared.grammar.Group.{Group}
use Rattle.zig_tree.specs.declared.grammar.Part.{Part}
use Rattle.zig_tree.specs.declared.grammar.Part.TheVariants as part
use Rattle.zig_tree.specs.Kinds.{has_kind, is_kind, number_of}
use Rattle.zig_tree.specs.Grammar.{Alternative, group_rows, rule_rows}
use Rattle.zig_tree.specs.GrammarSentences.{Pieces, followed, made, open_at, Among, Derives, derives_none, derives_token, derives_one_of, derives_group, derives_rule}
use Rattle.zig_parse.specs.declared.choice.Look.{Look}
use Rattle.zig_parse.specs.declared.thread.Move.TheVariants as move
use Rattle.zig_parse.specs.Choices.{choices}
use Rattle.zig_parse.specs.Moves.{reading}
use Rattle.zig_parse.specs.Surveys.{look_at}
use Rattle.zig_parse.specs.Growth.{is_second, picked}
use Rattle.zig_parse.specs.Trees.{kinds_of}
use Rattle.zig_parse.proofs.Derived.{no_longer, open_is_row, row_tested}
use Rattle.zig_parse.proofs.Balance.{reads_some}
use Rattle.zig_parse.proofs.Shapes.{row_fills, row_led}
use Rattle.zig_parse.proofs.Tables.{rule_filled}
use Rattle.zig_parse.proofs.TreeTables.{rule_led}
use Rattle.zig_parse.proofs.Spelled.{here, look_here}
use Rattle.zig_parse.proofs.Story.{left_from, piece_amount}
use Rattle.zig_parse.proofs.Picks.{parts_in, choices_as}
use Rattle.zig_parse.specs.Ways.{Fork, Sure, Taken, noted, sure_none, sure_token, sure_one_of, sure_group, sure_rule, sure_group_apart, sure_rule_apart, taken_sole, taken_first, taken_second}
use Rattle.zig_parse.proofs.Goes.{Goes, Picks, goes_none, goes_token, goes_group, goes_rule, kinds_length}

-- ---- the marks

-- the marks name each of these choices
abbrev pub Agrees : List Token → List Bool → List Fork → Type 0
Agrees tokens marks [] = Unit {0}
Agrees tokens marks (f ∷ fs) = (is_second marks (length tokens - f.left) ≡ f.second) × Agrees tokens marks fs

pub agrees_split : (tokens : List Token) (marks : List Bool) (fs gs : List Fork) → Agrees tokens marks (fs ++ gs) → Agrees tokens marks fs × Agrees tokens marks gs
agrees_split tokens marks [] gs h = (tt, h)
agrees_split tokens marks (f ∷ fs) gs h = let s = agrees_split tokens marks fs gs h.1 in ((h.0, s.0), s.1)

-- all choices at one token are this one
abbrev Follows : Bool → List Bool → Type 0
Follows second [] = Unit {0}
Follows second (c ∷ cs) = (second ≡ c) × Follows second cs

follows : (tokens : List Token) (marks : List Bool) (at : ℕ) (kinds : List TokenKind) (cs : List Bool) → kinds ≡ left_from tokens at → at < length tokens → Agrees tokens marks (noted kinds cs) → Follows (is_second marks at) cs
follows tokens marks at kinds [] e h a = tt
follows tokens marks at kinds (c ∷ cs) e h a =
    let number : length tokens - length kinds ≡ at = omega (arith, length-drop at (kinds_of tokens), kinds_length tokens, ap (λ (x : List TokenKind). length x) e) in
    (sym (ap (is_second marks) number) ∙ a.0, follows tokens marks at kinds cs e h a.1)

taken_among : (later : List Part) (kinds end : List TokenKind) (rows : List Alternative) (a : Alternative) (cs : List Bool) → Taken later kinds end rows a cs → Among a rows
taken_among later kinds end rows a cs (taken_sole _) = inl refl
taken_among later kinds end rows a cs (taken_first _ b) = inl refl
taken_among later kinds end rows a cs (taken_second _ b never) = inr (inl refl)

taken_picked : (second : Bool) (later : List Part) (kinds end : List TokenKind) (rows : List Alternative) (a : Alternative) (cs : List Bool) → Taken later kinds end rows a cs → Follows second cs → picked second (parts_in rows) ≡ Some a.parts
unfolding picked
taken_picked second later kinds end rows a cs (taken_sole _) f = refl
taken_picked second later kinds end rows a cs (taken_first _ b) f = ap (λ (x : Bool). Some (if x then b.parts else a.parts)) f.0
taken_picked second later kinds end rows a cs (taken_second _ b never) f = ap (λ (x : Bool). Some (if x then a.parts else b.parts)) f.0

picked_at : (tokens : List Token) (marks : List Bool) (at : ℕ) (kinds : List TokenKind) (rows : List Alternative) → kinds ≡ left_from tokens at → picked (is_second marks at) (choices (look_at tokens at) rows) ≡ picked (is_second marks at) (parts_in (open_at kinds rows))
picked_at tokens marks at kinds rows e =
    ap (λ (x : Look). picked (is_second marks at) (choices x rows)) (look_here tokens at ∙ ap here (sym e)) ∙ ap (picked (is_second marks at)) (choices_as kinds rows)

taken_picks : (tokens : List Token) (marks : List Bool) (later : List Part) (kinds end : List TokenKind) (rows : List Alternative) (a : Alternative) (cs : List Bool) → Taken later kinds end (open_at kinds rows) a cs → Agrees tokens marks (noted kinds cs)
    → Picks tokens marks kinds rows a
taken_picks tokens marks later kinds end rows a cs t h at e before =
    picked_at tokens marks at kinds rows e ∙ taken_picked (is_second marks at) later kinds end (open_at kinds rows) a cs t (follows tokens marks at kinds cs e before h)

sole_picks : (tokens : List Token) (marks : List Bool) (kinds : List TokenKind) (rows : List Alternative) (a : Alternative) → open_at kinds rows ≡ a ∷ [] → Picks tokens marks kinds rows a
unfolding picked
sole_picks tokens marks kinds rows a sole at e before = picked_at tokens marks at kinds rows e ∙ ap (λ (x : List Alternative). picked (is_second marks at) (parts_in x)) sole

sole_among : (a : Alternative) (rows : List Alternative) → rows ≡ a ∷ [] → Among a rows
sole_among a rows e = subst (Among a) (sym e) (inl refl)

-- ---- what is sure is derived

pub sure_derives : (ps behind : List Part) (kinds next end : List TokenKind) (p : Pieces) (forks : List Fork) → Sure ps behind kinds next end p forks → Derives ps kinds next p
sure_derives ps behind kinds next end p forks (sure_none _ _ _) = derives_none kinds
sure_derives ps behind kinds next end p forks (sure_token k more _ after _ _ later _ d) = derives_token k more after next later (sure_derives more behind after next end later forks d)
sure_derives ps behind kinds next end p forks (sure_one_of c k more _ after _ _ later _ h d) = derives_one_of c k more after next later h (sure_derives more behind after next end later forks d)
sure_derives ps behind kinds next end p forks (sure_group g a more _ _ mid _ _ inside later cs inner outer h t d e) =
    derives_group g a more kinds mid next inside later (taken_among (more ++ behind) kinds end (open_at kinds (group_rows g)) a cs t) (sure_derives a.parts (more ++ behind) kinds mid end inside inner d) (sure_derives more behind mid next end later outer e)
sure_derives ps behind kinds next end p forks (sure_rule r a more _ _ mid _ _ inside later cs inner outer h t d e) =
    derives_rule r a more kinds mid next inside later (taken_among (more ++ behind) kinds end (open_at kinds (rule_rows r)) a cs t) (sure_derives a.parts (more ++ behind) kinds mid end inside inner d) (sure_derives more behind mid next end later outer e)
sure_derives ps behind kinds next end p forks (sure_group_apart g a more _ _ mid _ _ inside later inner outer h t d e) =
    derives_group g a more kinds mid next inside later (sole_among a (open_at kinds (group_rows g)) t) (sure_derives a.parts [] kinds mid mid inside inner d) (sure_derives more behind mid next end later outer e)
sure_derives ps behind kinds next end p forks (sure_rule_apart r a more _ _ mid _ _ inside later inner outer h t d e) =
    derives_rule r a more kinds mid next inside later (sole_among a (open_at kinds (rule_rows r)) t) (sure_derives a.parts [] kinds mid mid inside inner d) (sure_derives more behind mid next end later outer e)

-- ---- the second pass goes through it

pub reads_token : (k : TokenKind) (look : Look) → look.kind ≡ k → reading (is_kind k look.kind) ≡ move.Read
reads_token k look e = ap reading (ap (is_kind k) e ∙ eq-eqb (number_of k) (number_of k) refl)

reads_class : (look : Look) (k : TokenKind) (test : TokenKind → Bool) → test k ≡ true → look.kind ≡ k → reading (test look.kind) ≡ move.Read
reads_class look k test h e = ap (λ (x : TokenKind). reading (test x)) e ∙ ap reading h

goes_group_as : (tokens : List Token) (marks : List Bool) (g : Group) (a : Alternative) (ps : List Part) (kinds mid next : List TokenKind) (inside later : Pieces) → Among a (open_at kinds (group_rows g)) → Picks tokens marks kinds (group_rows g) a → 0 < length next
    → Derives a.parts kinds mid inside → Derives ps mid next later → Goes tokens marks a.parts kinds mid inside → Goes tokens marks ps mid next later → Goes tokens marks (part.Group g ∷ ps) kinds next (followed inside later)
goes_group_as tokens marks g a ps kinds mid next inside later among picks some first second go on =
    goes_group tokens marks g a ps kinds mid next inside later (open_is_row kinds a (group_rows g) among) picks (omega (arith, no_longer a.parts kinds mid inside first, no_longer ps mid next later second)) (λ h. piece_amount ps mid next later second h) go on

goes_rule_as : (tokens : List Token) (marks : List Bool) (r : Rule) (a : Alternative) (ps : List Part) (kinds mid next : List TokenKind) (inside later : Pieces) → length tokens < 2 ^ 32 → Among a (open_at kinds (rule_rows r)) → Picks tokens marks kinds (rule_rows r) a → 0 < length next
    → Derives a.parts kinds mid inside → Derives ps mid next later → Goes tokens marks a.parts kinds mid inside → Goes tokens marks ps mid next later → Goes tokens marks (part.Rule r ∷ ps) kinds next (followed (made r inside) later)
goes_rule_as tokens marks r a ps kinds mid next inside later fits among picks some first second go on =
    let is_row = open_is_row kinds a (rule_rows r) among in
    let less = reads_some a.parts kinds mid inside first (row_tested row_fills a (rule_rows r) (rule_filled r) is_row) in
    goes_rule tokens marks r a ps kinds mid next inside later fits (row_tested row_led a (rule_rows r) (rule_led r) is_row) picks (omega (arith, no_longer ps mid next later second)) less (λ h. piece_amount ps mid next later second h) go on

pub sure_goes : (tokens : List Token) (marks : List Bool) → length tokens < 2 ^ 32 → (ps behind : List Part) (kinds next end : List TokenKind) (p : Pieces) (forks : List Fork) → Sure ps behind kinds next end p forks → Agrees tokens marks forks → 0 < length next
    → Goes tokens marks ps kinds next p
sure_goes tokens marks fits ps behind kinds next end p forks (sure_none _ _ _) agree some = goes_none tokens marks kinds
sure_goes tokens marks fits ps behind kinds next end p forks (sure_token k more _ after _ _ later _ d) agree some =
    goes_token tokens marks (part.Token k) more k after next later fits (reads_token k) (sure_goes tokens marks fits more behind after next end later forks d agree some)
sure_goes tokens marks fits ps behind kinds next end p forks (sure_one_of c k more _ after _ _ later _ h d) agree some =
    goes_token tokens marks (part.OneOf c) more k after next later fits (λ look e. reads_class look k (has_kind c) h e) (sure_goes tokens marks fits more behind after next end later forks d agree some)
sure_goes tokens marks fits ps behind kinds next end p forks (sure_group g a more _ _ mid _ _ inside later cs inner outer h t d e) agree some =
    let s = agrees_split tokens marks (noted kinds cs) (inner ++ outer) agree in
    let u = agrees_split tokens marks inner outer s.1 in
    let first = sure_derives a.parts (more ++ behind) kinds mid end inside inner d in
    let second = sure_derives more behind mid next end later outer e in
    goes_group_as tokens marks g a more kinds mid next inside later (taken_among (more ++ behind) kinds end (open_at kinds (group_rows g)) a cs t) (taken_picks tokens marks (more ++ behind) kinds end (group_rows g) a cs t s.0) some first second
    (sure_goes tokens marks fits a.parts (more ++ behind) kinds mid end inside inner d u.0 (omega (arith, no_longer more mid next later second))) (sure_goes tokens marks fits more behind mid next end later outer e u.1 some)
sure_goes tokens marks fits ps behind kinds next end p forks (sure_rule r a more _ _ mid _ _ inside later cs inner outer h t d e) agree some =
    let s = agrees_split tokens marks (noted kinds cs) (inner ++ outer) agree in
    let u = agrees_split tokens marks inner outer s.1 in
    let first = sure_derives a.parts (more ++ behind) kinds mid end inside inner d in
    let second = sure_derives more behind mid next end later outer e in
    goes_rule_as tokens marks r a more kinds mid next inside later fits (taken_among (more ++ behind) kinds end (open_at kinds (rule_rows r)) a cs t) (taken_picks tokens marks (more ++ behind) kinds end (rule_rows r) a cs t s.0) some first second
    (sure_goes tokens marks fits a.parts (more ++ behind) kinds mid end inside inner d u.0 (omega (arith, no_longer more mid next later second))) (sure_goes tokens marks fits more behind mid next end later outer e u.1 some)
sure_goes tokens marks fits ps behind kinds next end p forks (sure_group_apart g a more _ _ mid _ _ inside later inner outer h t d e) agree some =
    let u = agrees_split tokens marks inner outer agree in
    let first = sure_derives a.parts [] kinds mid mid inside inner d in
    let second = sure_derives more behind mid next end later outer e in
    goes_group_as tokens marks g a more kinds mid next inside later (sole_among a (open_at kinds (group_rows g)) t) (sole_picks tokens marks kinds (group_rows g) a t) some first second
    (sure_goes tokens marks fits a.parts [] kinds mid mid inside inner d u.0 (omega (arith, no_longer more mid next later second))) (sure_goes tokens marks fits more behind mid next end later outer e u.1 some)
sure_goes tokens marks fits ps behind kinds next end p forks (sure_rule_apart r a more _ _ mid _ _ inside later inner outer h t d e) agree some =
    let u = agrees_split tokens marks inner outer agree in
    let first = sure_derives a.parts [] kinds mid mid inside inner d in
    let second = sure_derives more behind mid next end later outer e in
    goes_rule_as tokens marks r a more kinds mid next inside later fits (sole_among a (open_at kinds (rule_rows r)) t) (sole_picks tokens marks kinds (rule_rows r) a t) some first second
    (sure_goes tokens marks fits a.parts [] kinds mid mid inside inner d u.0 (omega (arith, no_longer more mid next later second))) (sure_goes tokens marks fits more behind mid next end later outer e u.1 some)

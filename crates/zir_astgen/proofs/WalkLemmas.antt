-- One step of the walk over a row.
use Rattle.std.proofs.Common.{◌≡◌, ℕ, ◌<◌, ◌≤◌, Bool, true, false, if◌then◌else◌, List, [], ◌∷◌, ◌++◌, length, refl, sym, ◌∙◌, ap, subst, arith, Option}
use Rattle.zig_tree.specs.declared.token.TokenKind.{TokenKind}
use Rattle.zig_tree.specs.declared.grammar.Rule.{Rule}
use Rattle.zig_tree.specs.declared.tree.Kid.{Kid}
use Rattle.zig_tree.specs.declared.tree.Kid.TheVariants as kid
use Rattle.zig_tree.specs.declared.grammar.Rule.TheVariants as rule
use Rattle.zig_tree.specs.Kinds.{is_rule}
use Rattle.zir_form.specs.Core.{Core}
use Rattle.zir_form.specs.Core as core
use Rattle.zir_form.specs.Lines.{tree_at}
use Rattle.zir_scope.specs.Syntax.{Syntax, word, node, kind_at, rule_at, inside_of, row_in}
use Rattle.zir_scope.specs.declared.outline.Outline.{Outline}
use Rattle.zir_astgen.specs.declared.around.Place.{Place}
use Rattle.zir_astgen.specs.declared.levels.Frames.{Frames}
use Rattle.zir_astgen.specs.declared.stage.Layer.{Layer}
use Rattle.zir_astgen.specs.declared.stage.Stage.{Stage}
use Rattle.zir_astgen.specs.declared.source.Source.{Source}
use Rattle.zir_astgen.specs.declared.walk.Row.{Row}
use Rattle.zir_astgen.specs.declared.piece.Piece.{Piece}
use Rattle.zir_astgen.specs.declared.piece.Piece.TheVariants as piece
use Rattle.zir_astgen.specs.Firsts.{Adds, Grows}
use Rattle.zir_astgen.specs.Frames.{around_of, levels_of, with_layer, AddsPlace, FramesBelow}
use Rattle.zir_astgen.specs.Levels.{Level}
use Rattle.zir_astgen.specs.Parts.{Parts, ended, token, part, first_of, lead_of}
use Rattle.zir_astgen.specs.Pieces.{parts_of, Below}
use Rattle.zir_astgen.specs.Site.{File, Site}
use Rattle.zir_astgen.specs.Stages.{Around, levels_into, levels_within, past_node, past_token, stage_within, within}
use Rattle.zir_astgen.specs.Statements.{container_at}
use Rattle.zir_astgen.specs.Trees as spec
use Rattle.zir_astgen.specs.Trees.{Walked, apart, is_apart, made, made_by, over, past, walk}
use Rattle.zir_astgen.specs.Walks.{node_first, node_tree, Walks}
use Rattle.zir_astgen.specs.Writing.{linkage_of}
use Rattle.zir_astgen.proofs.AddLemmas.{adds_behind, adds_same, below_stays, grown, grows_more, grows_none, longer, tree_stays}
use Rattle.zir_astgen.proofs.FrameLemmas.{levels_stay}

-- pieces, and the parts that are left
abbrev pub onto : Outline → List Core → List Piece → Parts → Parts
onto o trees [] more = more
onto o trees (piece.Token t k ∷ pieces) more = token t k (onto o trees pieces more)
onto o trees (piece.Node r n first line ∷ pieces) more = part r (inside_of o n) first (tree_at trees line) (onto o trees pieces more)

pub onto_end : (o : Outline) (trees : List Core) (pieces : List Piece) → parts_of o trees pieces ≡ onto o trees pieces ended
unfolding parts_of
onto_end o trees [] = refl
onto_end o trees (piece.Token t k ∷ more) = ap (λ (p : Parts). token t k p) (onto_end o trees more)
onto_end o trees (piece.Node r n first line ∷ more) = ap (λ (p : Parts). part r (inside_of o n) first (tree_at trees line) p) (onto_end o trees more)

onto_token : (o : Outline) (trees : List Core) (pieces : List Piece) (t : ℕ) (k : TokenKind) (more : Parts)
    → onto o trees (pieces ++ piece.Token t k ∷ []) more ≡ onto o trees pieces (token t k more)
onto_token o trees [] t k more = refl
onto_token o trees (piece.Token u m ∷ pieces) t k more = ap (λ (p : Parts). token u m p) (onto_token o trees pieces t k more)
onto_token o trees (piece.Node r n first line ∷ pieces) t k more = ap (λ (p : Parts). part r (inside_of o n) first (tree_at trees line) p) (onto_token o trees pieces t k more)

onto_node : (o : Outline) (trees : List Core) (pieces : List Piece) (r : Rule) (n first line : ℕ) (more : Parts)
    → onto o trees (pieces ++ piece.Node r n first line ∷ []) more ≡ onto o trees pieces (part r (inside_of o n) first (tree_at trees line) more)
onto_node o trees [] r n first line more = refl
onto_node o trees (piece.Token u m ∷ pieces) r n first line more = ap (λ (p : Parts). token u m p) (onto_node o trees pieces r n first line more)
onto_node o trees (piece.Node q i f l ∷ pieces) r n first line more = ap (λ (p : Parts). part q (inside_of o i) f (tree_at trees l) p) (onto_node o trees pieces r n first line more)

onto_stay : (o : Outline) (old now : List Core) (pieces : List Piece) (more : Parts) → Grows old now → Below (length old) pieces
    → onto o now pieces more ≡ onto o old pieces more
onto_stay o old now [] more g h = refl
onto_stay o old now (piece.Token t k ∷ pieces) more g h = ap (λ (p : Parts). token t k p) (onto_stay o old now pieces more g h)
onto_stay o old now (piece.Node r n first line ∷ pieces) more g h =
    ap (λ (c : Core). part r (inside_of o n) first c (onto o now pieces more)) (tree_stays old now line g h.0)
    ∙ ap (λ (p : Parts). part r (inside_of o n) first (tree_at old line) p) (onto_stay o old now pieces more g h.1)

below_token : (count : ℕ) (pieces : List Piece) (t : ℕ) (k : TokenKind) → Below count pieces → Below count (pieces ++ piece.Token t k ∷ [])
below_token count [] t k h = tt
below_token count (piece.Token u m ∷ pieces) t k h = below_token count pieces t k h
below_token count (piece.Node r n first line ∷ pieces) t k h = (h.0, below_token count pieces t k h.1)

below_node : (count : ℕ) (pieces : List Piece) (r : Rule) (n first line : ℕ) → line < count → Below count pieces → Below count (pieces ++ piece.Node r n first line ∷ [])
below_node count [] r n first line lt h = (lt, tt)
below_node count (piece.Token u m ∷ pieces) r n first line lt h = below_node count pieces r n first line lt h
below_node count (piece.Node q i f l ∷ pieces) r n first line lt h = (h.0, below_node count pieces r n first line lt h.1)

-- ---- the source stays

abbrev pub file_by : Source → File
file_by x = record { text = x.text.now; tokens = x.outline.now.tokens.now; facts = x.outline.now.facts.now; events = x.events.now; captures = x.captures.now }

abbrev pub site_by : Source → Site
site_by x = record { origin = x.part.now.origin; locals = x.part.now.locals.now; containers = x.part.now.containers.now; captured = x.part.now.captured.now; around = x.part.now.around.now; linkage = linkage_of x.part.now.linkage }

-- ---- the walk

pub walk_word : (f : File) (s : Site) (a : Around) (t : ℕ) (k : TokenKind) (more : Syntax)
    → walk f s a (word t k more) ≡ past t k (walk f s (past_token f a t k) more)
unfolding walk
walk_word f s a t k more = refl

pub walk_node : (f : File) (s : Site) (a : Around) (r : Rule) (inside more : Syntax)
    → walk f s a (node r inside more) ≡ over r inside (node_first f s a r inside) (node_tree f s a r inside) (walk f s (past_node a r inside (node_tree f s a r inside)) more)
unfolding walk
walk_node f s a r inside more = by (is_apart r)
  where
    by : (b : Bool)
        → (if b then over r inside (lead_of inside) (apart f s r inside) (walk f s (past_node a r inside (apart f s r inside)) more)
        else over r inside (first_of (walk f s (within a r) inside).parts) (made f s (within a r) r (walk f s (within a r) inside))
        (walk f s (past_node a r inside (made f s (within a r) r (walk f s (within a r) inside))) more))
        ≡ over r inside (if b then lead_of inside else first_of (walk f s (within a r) inside).parts)
        (if b then apart f s r inside else made f s (within a r) r (walk f s (within a r) inside))
        (walk f s (past_node a r inside (if b then apart f s r inside else made f s (within a r) r (walk f s (within a r) inside))) more)
    by true = refl
    by false = refl

-- what is walked so far, and what the rest gives, is what the whole gives
pub record Walking (o : Outline) (f : File) (s : Site) (old now : List Core) (all : Walked) (place : Place) (pieces : List Piece) (rest : List Kid) : Type 0 where
  pub grows : Grows old now
  pub parts : onto o now pieces (walk f s (around_of now place) (row_in o rest)).parts ≡ all.parts
  pub behind : (walk f s (around_of now place) (row_in o rest)).behind ≡ all.behind
  pub inside : Below (length now) pieces
  pub around : FramesBelow (length now) place.frames

pub token_step : (o : Outline) (f : File) (s : Site) (old now : List Core) (all : Walked) (place next : Place) (pieces after : List Piece) (t : ℕ) (rest : List Kid)
    → Walking o f s old now all place pieces (kid.Token t ∷ rest)
    → after ≡ pieces ++ piece.Token t (kind_at o.tokens.now t) ∷ []
    → around_of now next ≡ past_token f (around_of now place) t (kind_at o.tokens.now t) → next.frames ≡ place.frames
    → Walking o f s old now all next after rest
unfolding row_in
token_step o f s old now all place next pieces after t rest h is turn same =
    let k : TokenKind = kind_at o.tokens.now t in
    let a : Around = around_of now place in
    let stepped : walk f s a (row_in o (kid.Token t ∷ rest)) ≡ past t k (walk f s (around_of now next) (row_in o rest)) =
    walk_word f s a t k (row_in o rest) ∙ ap (λ (x : Around). past t k (walk f s x (row_in o rest))) (sym turn) in
    record {
      grows = h.grows;
      parts = ap (λ (l : List Piece). onto o now l (walk f s (around_of now next) (row_in o rest)).parts) is
          ∙ onto_token o now pieces t k (walk f s (around_of now next) (row_in o rest)).parts
          ∙ ap (λ (w : Walked). onto o now pieces w.parts) (sym stepped) ∙ h.parts;
      behind = ap (λ (w : Walked). w.behind) (sym stepped) ∙ h.behind;
      inside = subst (λ (l : List Piece). Below (length now) l) (sym is) (below_token (length now) pieces t k h.inside);
      around = subst (λ (x : Frames). FramesBelow (length now) x) (sym same) h.around;
    }

around_stays : (old now : List Core) (place : Place) → Grows old now → FramesBelow (length old) place.frames → around_of now place ≡ around_of old place
around_stays old now place g h = ap (λ (ls : List Level). record { levels = ls; stage = place.stage }) (levels_stay old now place.frames g h)

pub node_step : (o : Outline) (f : File) (s : Site) (old now mid last : List Core) (all : Walked) (place next : Place) (pieces after : List Piece) (n first line : ℕ) (rest : List Kid)
    → Walking o f s old now all place pieces (kid.Node n ∷ rest)
    → first ≡ node_first f s (around_of now place) (rule_at o.nodes.now n) (inside_of o n)
    → Adds now mid (node_tree f s (around_of now place) (rule_at o.nodes.now n) (inside_of o n)) line
    → after ≡ pieces ++ piece.Node (rule_at o.nodes.now n) n first line ∷ []
    → AddsPlace mid last (past_node (around_of mid place) (rule_at o.nodes.now n) (inside_of o n) (tree_at mid line)) next
    → Walking o f s old last all next after rest
unfolding row_in inside_of
node_step o f s old now mid last all place next pieces after n first line rest h lead adds is turn =
    let r : Rule = rule_at o.nodes.now n in
    let inside : Syntax = inside_of o n in
    let a : Around = around_of now place in
    let tree : Core = node_tree f s a r inside in
    let one : Grows now mid = grown now mid tree line adds in
    let both : Grows now last = grows_more now mid last one turn.grows in
    let behind : Around = past_node a r inside tree in
    let moved : around_of last next ≡ behind =
    turn.stand ∙ ap (λ (x : Around). past_node x r inside (tree_at mid line)) (around_stays now mid place one h.around) ∙ ap (past_node a r inside) adds.stands in
    let more : Walked = walk f s (around_of last next) (row_in o rest) in
    let stepped : walk f s a (row_in o (kid.Node n ∷ rest)) ≡ over r inside first tree more =
    walk_node f s a r inside (row_in o rest)
    ∙ ap (λ (x : ℕ). over r inside x tree (walk f s behind (row_in o rest))) (sym lead)
    ∙ ap (λ (x : Around). over r inside first tree (walk f s x (row_in o rest))) (sym moved) in
    let there : tree_at last line ≡ tree = tree_stays mid last line turn.grows adds.inside ∙ adds.stands in
    let i : line < length mid = adds.inside in
    let le : length mid ≤ length last = longer mid last turn.grows in
    record {
      grows = grows_more old now last h.grows both;
      parts = ap (λ (l : List Piece). onto o last l more.parts) is
          ∙ onto_node o last pieces r n first line more.parts
          ∙ ap (λ (c : Core). onto o last pieces (part r inside first c more.parts)) there
          ∙ onto_stay o now last pieces (part r inside first tree more.parts) both h.inside
          ∙ ap (λ (w : Walked). onto o now pieces w.parts) (sym stepped) ∙ h.parts;
      behind = ap (λ (w : Walked). w.behind) (sym stepped) ∙ h.behind;
      inside = subst (λ (l : List Piece). Below (length last) l) (sym is) (below_node (length last) pieces r n first line (omega (arith, i, le)) (below_stays now last pieces both h.inside));
      around = turn.inside;
    }

-- ---- a node

-- a declaration stands for nothing
pub apart_absent : (f : File) (s : Site) (r : Rule) (inside : Syntax) → is_rule r rule.Container ≡ false → core.absent ≡ apart f s r inside
unfolding apart
apart_absent f s r inside e = ap (λ (b : Bool). if b then container_at f s (lead_of inside) else core.absent) (sym e)

-- a node that is in a part of its own
pub visit_apart : (f : File) (s : Site) (a : Around) (old now : List Core) (r : Rule) (inside : Syntax) (first line : ℕ)
    → is_apart r ≡ true → first ≡ lead_of inside → Adds old now (apart f s r inside) line
    → (first ≡ node_first f s a r inside) × Adds old now (node_tree f s a r inside) line
visit_apart f s a old now r inside first line e lead adds = (
  lead ∙ ap (λ (b : Bool). if b then lead_of inside else first_of (walk f s (within a r) inside).parts) (sym e),
  adds_same old now (apart f s r inside) (node_tree f s a r inside) line adds
      (ap (λ (b : Bool). if b then apart f s r inside else made f s (within a r) r (walk f s (within a r) inside)) (sym e)),
)

-- what lies around the first part within a node, by the frames that are pushed
pub within_is : (trees : List Core) (place inner : Place) (outer : Frames) (r : Rule) (into by_itself : Option Layer)
    → tree_at trees 1 ≡ core.absent
    → ((levels : List Level) → levels_into r levels place.stage ≡ with_layer into levels)
    → ((levels : List Level) → levels_within r place.stage levels ≡ with_layer by_itself levels)
    → ((cs : List Core) → tree_at cs 1 ≡ core.absent → levels_of cs outer ≡ with_layer into (levels_of cs place.frames))
    → ((cs : List Core) → tree_at cs 1 ≡ core.absent → levels_of cs inner.frames ≡ with_layer by_itself (levels_of cs outer))
    → inner.stage ≡ stage_within r place.stage
    → around_of trees inner ≡ within (around_of trees place) r
unfolding within
within_is trees place inner outer r into by_itself absent i w o n stage =
    let levels : List Level = levels_of trees place.frames in
    let first : levels_of trees outer ≡ levels_into r levels place.stage = o trees absent ∙ sym (i levels) in
    let both : levels_of trees inner.frames ≡ levels_within r place.stage (levels_into r levels place.stage) =
    n trees absent ∙ ap (with_layer by_itself) first ∙ sym (w (levels_into r levels place.stage)) in
    ap (λ (ls : List Level). record { levels = ls; stage = inner.stage }) both
    ∙ ap (λ (x : Stage). record { levels = levels_within r place.stage (levels_into r levels place.stage); stage = x }) stage

-- the same steps, by the writers' sources, and what is called
pub token_turn : (x0 x1 : Source) (old now : List Core) (all : Walked) (place next : Place) (pieces after : List Piece) (t : ℕ) (k : TokenKind) (whole rest : List Kid)
    → Walking x0.outline.now (file_by x0) (site_by x0) old now all place pieces whole → whole ≡ kid.Token t ∷ rest → x1 ≡ x0
    → k ≡ kind_at x0.outline.now.tokens.now t → after ≡ pieces ++ piece.Token t k ∷ []
    → ((trees : List Core) → around_of trees next ≡ past_token (file_by x1) (around_of trees place) t k) → next.frames ≡ place.frames
    → Walking x0.outline.now (file_by x0) (site_by x0) old now all next after rest
token_turn x0 x1 old now all place next pieces after t k whole rest h split same is push turn frames =
    token_step x0.outline.now (file_by x0) (site_by x0) old now all place next pieces after t rest
    (subst (λ (l : List Kid). Walking x0.outline.now (file_by x0) (site_by x0) old now all place pieces l) split h)
    (push ∙ ap (λ (m : TokenKind). pieces ++ piece.Token t m ∷ []) is)
    (turn now ∙ ap (λ (x : Source). past_token (file_by x) (around_of now place) t k) same ∙ ap (past_token (file_by x0) (around_of now place) t) is)
    frames

pub node_turn : (x0 x1 x2 : Source) (old now mid last : List Core) (all : Walked) (place next : Place) (pieces after : List Piece) (n first line : ℕ) (r : Rule) (whole rest : List Kid)
    → Walking x0.outline.now (file_by x0) (site_by x0) old now all place pieces whole → whole ≡ kid.Node n ∷ rest → x1 ≡ x0 → x2 ≡ x1
    → r ≡ rule_at x0.outline.now.nodes.now n
    → first ≡ node_first (file_by x1) (site_by x1) (around_of now place) (rule_at x1.outline.now.nodes.now n) (inside_of x1.outline.now n)
    → Adds now mid (node_tree (file_by x1) (site_by x1) (around_of now place) (rule_at x1.outline.now.nodes.now n) (inside_of x1.outline.now n)) line
    → after ≡ pieces ++ piece.Node r n first line ∷ []
    → AddsPlace mid last (past_node (around_of mid place) r (inside_of x2.outline.now n) (tree_at mid line)) next
    → Walking x0.outline.now (file_by x0) (site_by x0) old last all next after rest
node_turn x0 x1 x2 old now mid last all place next pieces after n first line r whole rest h split same still is lead adds push turn =
    let o : Outline = x0.outline.now in
    node_step o (file_by x0) (site_by x0) old now mid last all place next pieces after n first line rest
    (subst (λ (l : List Kid). Walking o (file_by x0) (site_by x0) old now all place pieces l) split h)
    (lead ∙ ap (λ (x : Source). node_first (file_by x) (site_by x) (around_of now place) (rule_at x.outline.now.nodes.now n) (inside_of x.outline.now n)) same)
    (subst (λ (x : Source). Adds now mid (node_tree (file_by x) (site_by x) (around_of now place) (rule_at x.outline.now.nodes.now n) (inside_of x.outline.now n)) line) same adds)
    (push ∙ ap (λ (q : Rule). pieces ++ piece.Node q n first line ∷ []) is)
    (subst (λ (q : Rule). AddsPlace mid last (past_node (around_of mid place) q (inside_of o n) (tree_at mid line)) next) is
    (subst (λ (x : Source). AddsPlace mid last (past_node (around_of mid place) r (inside_of x.outline.now n) (tree_at mid line)) next) (still ∙ same) turn))

pub walked_done : (o : Outline) (f : File) (s : Site) (old now : List Core) (all : Walked) (place : Place) (row : Row) (rest : List Kid)
    → Walking o f s old now all place row.pieces.items rest → length rest < 1 → row.behind ≡ place.frames → Walks o old now all row
unfolding row_in walk
walked_done o f s old now all place row [] h lt is = record {
  grows = h.grows;
  parts = onto_end o now row.pieces.items ∙ h.parts;
  inside = h.inside;
  behind = ap (levels_of now) is ∙ ap (λ (x : Around). x.levels) h.behind;
  around = subst (λ (x : Frames). FramesBelow (length now) x) (sym is) h.around;
}
walked_done o f s old now all place row (k ∷ more) h lt is = absurd (omega (arith, lt))

pub walked_none : (o : Outline) (f : File) (s : Site) (now : List Core) (place : Place) (rest : List Kid) (pieces : List Piece) → FramesBelow (length now) place.frames → pieces ≡ []
    → Walking o f s now now (walk f s (around_of now place) (row_in o rest)) place pieces rest
walked_none o f s now place rest pieces below none = record {
  grows = grows_none now;
  parts = ap (λ (l : List Piece). onto o now l (walk f s (around_of now place) (row_in o rest)).parts) none;
  behind = refl;
  inside = subst (λ (l : List Piece). Below (length now) l) (sym none) tt;
  around = below;
}

-- a node of a rule by the row that it holds
pub enter_all : (x0 x1 : Source) (t0 t1 t2 : List Core) (place inner : Place) (row : Row) (items : List Piece) (inside : Syntax) (r : Rule) (first line : ℕ)
    → around_of t0 inner ≡ within (around_of t0 place) r → FramesBelow (length t0) inner.frames
    → Walks x0.outline.now t0 t1 (walk (file_by x0) (site_by x0) (around_of t0 inner) inside) row
    → x1 ≡ x0 → items ≡ row.pieces.items
    → Adds t1 t2 (made_by (file_by x1) (site_by x1) (levels_of t1 inner.frames) (levels_of t1 row.behind) r (parts_of x1.outline.now t1 items)) line
    → first ≡ first_of (parts_of x1.outline.now t1 items)
    → (first ≡ first_of (walk (file_by x0) (site_by x0) (within (around_of t0 place) r) inside).parts)
    × Adds t0 t2 (spec.tree_at (file_by x0) (site_by x0) (around_of t0 place) r inside) line
unfolding spec.tree_at
enter_all x0 x1 t0 t1 t2 place inner row items inside r first line around below walked same is adds lead =
    let f : File = file_by x0 in
    let s : Site = site_by x0 in
    let a : Around = around_of t0 place in
    let l : Adds t1 t2 (made_by f s (levels_of t1 inner.frames) (levels_of t1 row.behind) r (parts_of x0.outline.now t1 row.pieces.items)) line =
    subst (λ (ps : List Piece). Adds t1 t2 (made_by f s (levels_of t1 inner.frames) (levels_of t1 row.behind) r (parts_of x0.outline.now t1 ps)) line) is
    (subst (λ (x : Source). Adds t1 t2 (made_by (file_by x) (site_by x) (levels_of t1 inner.frames) (levels_of t1 row.behind) r (parts_of x.outline.now t1 items)) line) same adds) in
    let lead_is : first ≡ first_of (parts_of x0.outline.now t1 row.pieces.items) =
    lead ∙ ap (λ (x : Source). first_of (parts_of x.outline.now t1 items)) same ∙ ap (λ (ps : List Piece). first_of (parts_of x0.outline.now t1 ps)) is in
    let w : Walked = walk f s (within a r) inside in
    let here : walk f s (around_of t0 inner) inside ≡ w = ap (λ (x : Around). walk f s x inside) around in
    let parts : parts_of x0.outline.now t1 row.pieces.items ≡ w.parts = walked.parts ∙ ap (λ (x : Walked). x.parts) here in
    let behind : levels_of t1 row.behind ≡ w.behind.levels = walked.behind ∙ ap (λ (x : Walked). x.behind.levels) here in
    let levels : levels_of t1 inner.frames ≡ (within a r).levels =
    levels_stay t0 t1 inner.frames walked.grows below ∙ ap (λ (x : Around). x.levels) around in
    let tree : made_by f s (levels_of t1 inner.frames) (levels_of t1 row.behind) r (parts_of x0.outline.now t1 row.pieces.items) ≡ made f s (within a r) r w =
    ap (λ (ls : List Level). made_by f s ls (levels_of t1 row.behind) r (parts_of x0.outline.now t1 row.pieces.items)) levels
    ∙ ap (λ (ls : List Level). made_by f s (within a r).levels ls r (parts_of x0.outline.now t1 row.pieces.items)) behind
    ∙ ap (λ (p : Parts). made_by f s (within a r).levels w.behind.levels r p) parts in (
      lead_is ∙ ap first_of parts,
      adds_behind t0 t1 t2 (made_by f s (levels_of t1 inner.frames) (levels_of t1 row.behind) r (parts_of x0.outline.now t1 row.pieces.items)) (made f s (within a r) r w) line walked.grows l tree,
    )

-- a node that is in no part of its own
pub visit_tree : (f : File) (s : Site) (a : Around) (old now : List Core) (r q : Rule) (kids inside : Syntax) (line : ℕ)
    → is_apart r ≡ false → r ≡ q → kids ≡ inside → Adds old now (spec.tree_at f s a r kids) line → Adds old now (node_tree f s a q inside) line
unfolding spec.tree_at
visit_tree f s a old now r q kids inside line e rule holds adds =
    subst (λ (x : Rule). Adds old now (node_tree f s a x inside) line) rule
    (subst (λ (k : Syntax). Adds old now (node_tree f s a r k) line) holds
    (adds_same old now (made f s (within a r) r (walk f s (within a r) kids)) (node_tree f s a r kids) line adds
    (ap (λ (b : Bool). if b then apart f s r kids else made f s (within a r) r (walk f s (within a r) kids)) (sym e))))

-- Where some tokens end by one way, and by none before it, some sentence begins with the tokens that were read and has
-- each of them no deeper than the limit.
use Rattle.std.proofs.Common.{◌≡◌, false, ◌+◌, List, [], ◌++◌, length, refl, sym, ◌∙◌, ap, subst, arith}
use Rattle.zig_tree.specs.declared.token.TokenKind.{TokenKind}
use Rattle.zig_tree.specs.GrammarSentences.{BeginsShallow, Pieces, Sentence, next_kind, token_depths}
use Rattle.zig_parse.specs.declared.choice.Look.{Look}
use Rattle.zig_parse.specs.declared.state.State.{State}
use Rattle.zig_parse.specs.Surveys.{first_state}
use Rattle.zig_parse.specs.Trees.{NotWithout}
use Rattle.zig_parse.specs.Leads.{Ending, after_front, kind_before, read_front}
use Rattle.zig_parse.specs.Laws.{EndedBegins}
use Rattle.zig_parse.proofs.Preferred.{sentence_some}
use Rattle.zig_parse.proofs.Refusals.{front_begins}
use Rattle.zig_parse.proofs.Surely.{sentence_sure}
use Rattle.zig_parse.proofs.Paths.{look_of}
use Rattle.zig_parse.proofs.SurePaths.{low_in, sure_path}
use Rattle.zig_parse.proofs.Following.{started}
use Rattle.zig_parse.proofs.Lasting.{Lasts}
use Rattle.zig_parse.proofs.Answers.{first_lasts, first_same, low_step}
use Rattle.zig_parse.proofs.Grounds.{Grounds, first_grounds}
use Rattle.zig_parse.proofs.FrontStates.{After, front_grounds, front_lasts, front_same, front_tracked}
use Rattle.zig_parse.proofs.EndingWays.{ending_low, ending_reads}

-- the tree that is chosen of tokens that end so
ending_shallow : (front w : List TokenKind) (next : TokenKind) (s : State) (look : Look) (e : Ending next s w) → e.t.deep ≡ false → s ≡ after_front front next 0 (first_state look) → Grounds s.live s.waiting → Lasts s.live s.waiting front next
    → (tree : Pieces) → Sentence (front ++ w) tree → low_in tree (length front)
ending_shallow front w next s look e shallow is grounds lasts tree sentence =
    let kinds = front ++ w in
    let low = low_in tree in
    let sure = sentence_sure kinds tree sentence in
    let path = sure_path kinds tree sure.0 sure.1 in
    let first = first_state (look_of kinds) in
    let start = started low (token_depths 0 tree) (λ n h. h) kinds path.0 sure.0 path.1 in
    let after = front_tracked low (low_step tree) path.0 (length kinds) 0 front w first [] sure.0 e.some start in
    let same : after_front front (next_kind w) 0 first ≡ s =
    front_same front (next_kind w) next 0 first e.colon ∙ ap (after_front front next 0) (first_same (look_of kinds) look) ∙ sym is in
    let now : After low path.0 (length kinds) (0 + length front) w s = subst (λ (x : State). After low path.0 (length kinds) (0 + length front) w x) same after in
    subst low (let n : 0 + length front ≡ length front = omega arith in n) (ending_low low path.0 (length kinds) (0 + length front) next s front w now.ds now.forks now.tracked grounds lasts e shallow)

pub ending_front : (front w : List TokenKind) (next : TokenKind) (e : Ending next (read_front front next) w) → e.t.deep ≡ false → NotWithout (BeginsShallow front)
unfolding BeginsShallow read_front
ending_front front w next e shallow none =
    let look : Look = record { kind = kind_before front next; next = next } in
    let s = after_front front next 0 (first_state look) in
    let grounds = front_grounds front next 0 (first_state look) (first_grounds look) in
    let lasts = front_lasts front next 0 (first_state look) [] (first_lasts look) in
    let r = ending_reads next s front w e lasts in
    sentence_some (front ++ w) r.0 r.1 (λ tree sentence. none (w, tree, sentence, ending_shallow front w next s look e shallow refl grounds lasts tree sentence))

pub ended_begins : EndedBegins
ended_begins front more w next e shallow none = ending_front (front ++ more) w next e shallow (λ b. none (front_begins front more b))

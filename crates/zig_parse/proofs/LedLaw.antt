-- Where a way leads, some sentence begins with the tokens that were read and has each of them no deeper than the limit.
use Rattle.std.proofs.Common.{◌≡◌, false, List, [], ◌++◌, ap, ◌∙◌}
use Rattle.zig_tree.specs.declared.token.TokenKind.{TokenKind}
use Rattle.zig_tree.specs.GrammarSentences.{BeginsShallow}
use Rattle.zig_parse.specs.declared.choice.Look.{Look}
use Rattle.zig_parse.specs.declared.thread.Thread.{Thread}
use Rattle.zig_parse.specs.Surveys.{first_state}
use Rattle.zig_parse.specs.Trees.{NotWithout}
use Rattle.zig_parse.specs.Leads.{Leader, after_front, kind_before, read_front}
use Rattle.zig_parse.specs.Laws.{LedBegins}
use Rattle.zig_parse.proofs.Refusals.{front_begins}
use Rattle.zig_parse.proofs.Answers.{first_lasts}
use Rattle.zig_parse.proofs.FrontStates.{front_lasts}
use Rattle.zig_parse.proofs.Leading.{ending}
use Rattle.zig_parse.proofs.LedWays.{led_ending}
use Rattle.zig_parse.proofs.EndingLaw.{ending_front}

pub led_front : (front : List TokenKind) (next : TokenKind) (led : Leader next (read_front front next)) → led.t.deep ≡ false → NotWithout (BeginsShallow front)
unfolding read_front
led_front front next led shallow =
    let look : Look = record { kind = kind_before front next; next = next } in
    let s = after_front front next 0 (first_state look) in
    let e = led_ending next s front led (front_lasts front next 0 (first_state look) [] (first_lasts look)) in
    ending_front front (ending next s led) next e.0 (ap (λ (t : Thread). t.deep) e.1 ∙ shallow)

pub led_begins : LedBegins
led_begins front more next led shallow none = led_front (front ++ more) next led shallow (λ b. none (front_begins front more b))

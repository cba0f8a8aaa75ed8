use Rattle.std.proofs.Common.{◌++◌, sym, ap, ◌∙◌, append-nil}
use Rattle.type_form.proofs.TextLemmas.{quoted-none}
use Rattle.type_form.proofs.text.put_quoted.Goals as goal

pub loop-byte-init : goal.loop-byte-init
loop-byte-init c = sym (ap (λ q. c.args.out.now.items ++ q) quoted-none ∙ append-nil c.args.out.now.items)

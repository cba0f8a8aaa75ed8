use Rattle.zw_bytes.proofs.LebForms.{unsigned_any, signed_any, padded_unsigned, signed_padded_form, unsigned_apart, signed_apart}
use Rattle.std.proofs.Common.{arith}
use Rattle.zw_bytes.proofs.leb.all_forms.Goals as goal

pub returns-clause-shortest_unsigned : goal.returns-clause-shortest_unsigned
returns-clause-shortest_unsigned c = unsigned_any

pub returns-clause-shortest_signed : goal.returns-clause-shortest_signed
returns-clause-shortest_signed c = signed_any

pub returns-clause-unsigned : goal.returns-clause-unsigned
returns-clause-unsigned c n h = padded_unsigned 4 n (omega arith)

pub returns-clause-signed : goal.returns-clause-signed
returns-clause-signed c = signed_padded_form

pub returns-clause-unsigned_one : goal.returns-clause-unsigned_one
returns-clause-unsigned_one c = unsigned_apart

pub returns-clause-signed_one : goal.returns-clause-signed_one
returns-clause-signed_one c = signed_apart

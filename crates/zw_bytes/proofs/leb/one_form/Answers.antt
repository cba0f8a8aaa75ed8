use Rattle.zw_bytes.proofs.LebForms.{unsigned_form, signed_leb_form, unsigned_any, signed_any, unsigned_apart, signed_apart}
use Rattle.std.proofs.Common.{arith}
use Rattle.zw_bytes.proofs.leb.one_form.Goals as goal

pub returns-clause-unsigned : goal.returns-clause-unsigned
returns-clause-unsigned c n h = unsigned_form 9 n (omega arith)

pub returns-clause-unsigned_one : goal.returns-clause-unsigned_one
returns-clause-unsigned_one c a b x y m n f g = unsigned_apart a b x y m n (unsigned_any a m f) (unsigned_any b n g)

pub returns-clause-signed : goal.returns-clause-signed
returns-clause-signed c = signed_leb_form

pub returns-clause-signed_one : goal.returns-clause-signed_one
returns-clause-signed_one c a b x y m n f g = signed_apart a b x y m n (signed_any a m f) (signed_any b n g)

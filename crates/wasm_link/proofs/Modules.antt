-- A module that is put together of equal parts.
use Rattle.std.proofs.Common.{◌≡◌, List}
use Rattle.wasm_form.specs.declared.module.Code.{Code}
use Rattle.wasm_form.specs.declared.module.Export.{Export}
use Rattle.wasm_form.specs.declared.module.FnType.{FnType}
use Rattle.wasm_form.specs.declared.module.Global.{Global}
use Rattle.wasm_form.specs.declared.module.Import.{Import}
use Rattle.wasm_form.specs.declared.module.Memory.{Memory}
use Rattle.wasm_form.specs.declared.module.Module.{Module}
use Rattle.wasm_form.specs.declared.module.Segment.{Segment}
use Rattle.wasm_form.specs.declared.module.TypeIndex.{TypeIndex}

abbrev pub parts_of : List FnType → List Import → List TypeIndex → List Memory → List Global → List Export → List Code → List Segment → Module
parts_of types imports functions memories globals exports codes segments = record {
  types = types;
  imports = imports;
  functions = functions;
  memories = memories;
  globals = globals;
  exports = exports;
  codes = codes;
  segments = segments;
}

pub same_parts : {t u : List FnType} {i j : List Import} {f g : List TypeIndex} {m n : List Memory} {v w : List Global} {e x : List Export} {c d : List Code} {s r : List Segment}
    → t ≡ u → i ≡ j → f ≡ g → m ≡ n → v ≡ w → e ≡ x → c ≡ d → s ≡ r → parts_of t i f m v e c s ≡ parts_of u j g n w x d r
same_parts tu ij fg mn vw ex cd sr = cc

-- Code that is put behind other code.
use Rattle.std.specs.Prelude.{Bool, true, false, List, ◌++◌, Option, Some, None}
use Rattle.std.specs.Option.{option_map}
use Rattle.wasm_form.specs.declared.instr.Instr.{Instr}

-- the code so far, where each form had a template
abbrev pub so_far : Bool → List Instr → Option (List Instr)
so_far true code = Some code
so_far false code = None

-- code, and behind it the code of a form that may have a template
abbrev pub onto : List Instr → Option (List Instr) → Option (List Instr)
onto code more = option_map (λ c. code ++ c) more

-- Which words of a key are indices, and of what.
use Rattle.std.specs.Prelude.{ℕ, ◌==◌, Bool, if◌then◌else◌, List, [], ◌∷◌, get_or, nat_lt}
use Rattle.type_form.specs.declared.roles.Role.{Role}
use Rattle.type_form.specs.declared.roles.Role.TheVariants as role

-- four words
abbrev pub four : Role → Role → Role → Role → List Role
four a b c d = a ∷ b ∷ c ∷ d ∷ []

-- the words of a key of another kind, which is no list, behind the number of its kind
abbrev pub roles_of_other : ℕ → List Role
roles_of_other kind =
    if kind == 30 then four role.Part role.Part role.Number role.Number
    else if kind == 31 then four role.Part role.Number role.Number role.Number
    else if kind == 32 then four role.Part role.Number role.Number role.Number
    else if kind == 33 then four role.Part role.Part role.Number role.Number
    else if kind == 34 then four role.Part role.Number role.Number role.Number
    else if kind == 35 then four role.Part role.List role.Number role.Number
    else four role.Number role.Number role.Number role.Number

-- the same of values
abbrev pub roles_of_value : ℕ → List Role
roles_of_value kind =
    if kind == 14 then four role.Part role.Number role.Number role.Number
    else if kind == 15 then four role.Part role.Number role.Number role.Number
    else if kind == 16 then four role.Part role.Part role.Number role.Number
    else if kind == 17 then four role.Part role.Part role.Number role.Number
    else if kind == 18 then four role.Part role.Part role.Number role.Number
    else if kind == 19 then four role.Part role.Part role.Number role.Number
    else if kind == 20 then four role.Part role.List role.Number role.Number
    else if kind == 21 then four role.Part role.Part role.Number role.Number
    else if kind == 22 then four role.Part role.Part role.Part role.Number
    else if kind == 23 then four role.Part role.Number role.Number role.Number
    else if kind == 24 then four role.Part role.Number role.Number role.Number
    else if kind == 25 then four role.Part role.Part role.Number role.Number
    else if kind == 26 then four role.Part role.Part role.Number role.Number
    else if kind == 27 then four role.Part role.Number role.Number role.Number
    else if kind == 28 then four role.Part role.Part role.Number role.Number
    else if kind == 29 then four role.Part role.Part role.Number role.Number
    else roles_of_other kind

-- the same of all keys that are no lists
abbrev pub roles_of : ℕ → List Role
roles_of kind =
    if kind == 3 then four role.List role.Number role.Number role.Number
    else if kind == 4 then four role.Number role.Part role.Number role.Number
    else if kind == 5 then four role.Number role.Part role.Number role.Number
    else if kind == 6 then four role.Number role.Part role.Number role.Number
    else if kind == 8 then four role.Part role.Number role.Number role.Number
    else if kind == 9 then four role.Part role.Part role.Number role.Number
    else if kind == 10 then four role.Part role.Number role.Number role.Number
    else if kind == 11 then four role.Part role.Number role.List role.Number
    else if kind == 12 then four role.List role.Part role.Number role.Number
    else if kind == 13 then four role.Part role.Number role.Number role.Number
    else roles_of_value kind

-- the word at a place of a list: the index of the list's rest, which stands first where there is one, or one of its numbers
abbrev pub role_in_list : ℕ → Bool → ℕ → Role
role_in_list kind of_parts at = if kind == 37 then (if at == 0 then role.Rest else if of_parts then role.Part else role.Number) else if of_parts then role.Part else role.Number

-- the word at a place of a key, behind the number of its kind. The numbers of a list are indices where it is one of parts
unfoldable pub role_at : ℕ → Bool → ℕ → Role
role_at kind of_parts at = if nat_lt kind 36 then (if nat_lt at 4 then get_or (roles_of kind) at role.Number else role.Number) else role_in_list kind of_parts at

-- What a path is, and the fault of a text that is none.
use Rattle.std.specs.Prelude.{◌≡◌, ℕ, Bool, true, false, nat_lt, nat_le, ◌==◌, ◌||◌, ◌&&◌, if◌then◌else◌, List, [], ◌∷◌, length, slice_index, Option, None, Some, Result, Ok, Err}
use Rattle.std.specs.List.{slice_split, list_any, list_all}
use Rattle.zw_base.specs.declared.path.PathFault.{PathFault}
use Rattle.zw_base.specs.declared.path.PathFault.TheVariants.{Empty, TooLong, BadByte, BadPart, OutOfMemory}

-- `A-Z a-z 0-9 _ . / -`
abbrev pub is_path_byte : ℕ → Bool
is_path_byte b =
    (nat_le 65 b && nat_le b 90) || (nat_le 97 b && nat_le b 122) || (nat_le 48 b && nat_le b 57)
    || (b == 95) || (b == 46) || (b == 47) || (b == 45)

-- what stands between the slashes; a path without a slash is one part
abbrev pub parts : List ℕ → List (List ℕ)
parts text = slice_split (λ b. b == 47) text

-- nothing, `.` or `..`
abbrev pub is_bad_part : List ℕ → Bool
is_bad_part [] = true
is_bad_part (a ∷ []) = a == 46
is_bad_part (a ∷ b ∷ []) = (a == 46) && (b == 46)
is_bad_part (a ∷ b ∷ c ∷ rest) = false

-- a path that begins with `/` or `-` names no file of a folder
abbrev pub begins_badly : List ℕ → Bool
begins_badly text = (slice_index text 0 == 47) || (slice_index text 0 == 45)

-- the first fault of a path's text
abbrev pub path_fault : List ℕ → Option PathFault
path_fault text =
    if length text == 0 then Some Empty
    else if nat_lt 255 (length text) then Some TooLong
    else if list_all is_path_byte text then (if begins_badly text || list_any is_bad_part (parts text) then Some BadPart else None)
    else Some BadByte

-- a call's answer is the text's fault, or that it has none; want of memory comes only where it has none
abbrev pub MeetsFault : {T : Type 0} → Result T PathFault → Option PathFault → Type 0
MeetsFault (Ok _) fault = fault ≡ None
MeetsFault (Err OutOfMemory) fault = fault ≡ None
MeetsFault (Err e) fault = fault ≡ Some e

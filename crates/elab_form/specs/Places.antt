-- Where a diagnostic of a form stands: at its first token, in bytes from the first token of the part.
use Rattle.std.specs.Prelude.{ℕ, Bool, true, false, if◌then◌else◌}
use Rattle.zir_form.specs.Core.{Core}
use Rattle.zir_form.specs.Core as core

abbrev pub place_of : Core → ℕ
place_of (core.local place _) = place
place_of (core.captured place _) = place
place_of (core.declared place _ _) = place
place_of (core.primitive place _) = place
place_of (core.integer place _) = place
place_of (core.text place _) = place
place_of (core.lines place _) = place
place_of (core.unreachable place) = place
place_of (core.enum_literal place _) = place
place_of (core.error_value place _) = place
place_of (core.error_set place _) = place
place_of (core.container place _ _) = place
place_of (core.builtin place _ _) = place
place_of (core.import place _) = place
place_of (core.grouped place _) = place
place_of (core.member place _ _ _) = place
place_of (core.dereference place _) = place
place_of (core.unwrap place _) = place
place_of (core.index place _ _) = place
place_of (core.slice place _ _ _) = place
place_of (core.call place _ _) = place
place_of (core.unary place _ _) = place
place_of (core.address place _) = place
place_of (core.try place _ _) = place
place_of (core.binary place _ _ _ _) = place
place_of (core.and place _ _ _) = place
place_of (core.or place _ _ _) = place
place_of (core.orelse place _ _ _) = place
place_of (core.catch place _ _ _ _) = place
place_of (core.comptime place _) = place
place_of (core.optional place _) = place
place_of (core.pointer place _ _) = place
place_of (core.slice_type place _ _) = place
place_of (core.array_type place _ _) = place
place_of (core.error_union place _ _) = place
place_of (core.initializer place _ _) = place
place_of (core.block place _ _) = place
place_of (core.labelled place _) = place
place_of (core.if place _ _ _) = place
place_of (core.loop place _ _ _) = place
place_of (core.range place _ _) = place
place_of (core.capture place _) = place
place_of (core.switch place _ _) = place
place_of (core.else_prong place _ _) = place
place_of (core.interval place _ _) = place
place_of (core.break place _ _ _) = place
place_of (core.continue place _ _) = place
place_of (core.return place _ _) = place
place_of (core.assign place _ _ _) = place
place_of (core.assign_with place _ _ _ _) = place
place_of (core.discard place _) = place
place_of (core.ignored place _) = place
place_of (core.constant name_place _ _ _) = name_place
place_of (core.variable name_place _ _ _) = name_place
place_of (core.head name_place _ _ _ _) = name_place
place_of (core.inferred place) = place
place_of (core.anytype place) = place
place_of (core.struct place _) = place
place_of (core.enum place _ _) = place
place_of (core.union place _ _) = place
place_of (core.field name_place _ _ _) = name_place
place_of _ = 0

abbrev pub is_absent : Core → Bool
is_absent core.absent = true
is_absent _ = false

-- the place of a value that may be left out, as behind `return`: then it is that of the form which lacks it
abbrev pub value_place : (place : ℕ) → Core → ℕ
value_place place c = if is_absent c then place else place_of c

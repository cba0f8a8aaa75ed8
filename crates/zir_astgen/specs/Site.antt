-- What is known of a file, and of the part that a place of it lies in.
use Rattle.std.specs.Prelude.{ℕ, ◌-◌, nat_eq, List, [], ◌∷◌, slice_get, Option, Some, None, if◌then◌else◌}
use Rattle.std.specs.Option.{option_or}
use Rattle.std.specs.List.{position_from}
use Rattle.zig_tree.specs.declared.token.Token.{Token}
use Rattle.zir_form.specs.Core.{Core, missing, local, captured, declared, primitive}
use Rattle.zir_form.specs.declared.primitive.Primitive.{Primitive}
use Rattle.zir_form.specs.Names.{name_of}
use Rattle.zir_form.specs.Primitives.{primitive_of}
use Rattle.zir_scope.specs.declared.captures.Capture.{Capture}
use Rattle.zir_scope.specs.declared.event.Event.{Event}
use Rattle.zir_scope.specs.declared.event.Event.TheVariants as event
use Rattle.zir_scope.specs.declared.event.Target.{Target}
use Rattle.zir_scope.specs.declared.event.Target.TheVariants as target
use Rattle.zir_scope.specs.declared.facts.Fact.{Fact}
use Rattle.zir_scope.specs.Findings.{span_of}
use Rattle.zir_astgen.specs.Calls.{bytes_at}

-- A file: its text, its tokens and what scoping sees of them, what its names stand for, in the order of the
-- text, and what its containers capture.
pub record File : Type 0 where
  pub text : List ℕ
  pub tokens : List Token
  pub facts : List Fact
  pub events : List Event
  pub captures : List Capture

-- A part: where its first token begins; the tokens that declare its locals, and the tokens that begin the
-- containers of its declaration, in order; the locals that the container around it captures; the tokens
-- that begin the members of the containers around it, the file's first; and of a function whether it is
-- exported, imported or neither.
pub record Site : Type 0 where
  pub origin : ℕ
  pub locals : List ℕ
  pub containers : List ℕ
  pub captured : List ℕ
  pub around : List ℕ
  pub linkage : Core

-- how far a token stands from the part's first one, in bytes
unfoldable pub offset : File → Site → ℕ → ℕ
offset f s t = (span_of (slice_get f.tokens t)).start - s.origin

-- the bytes of a token
unfoldable pub written_at : File → ℕ → List ℕ
written_at f t = bytes_at f.text f.tokens t

-- the name of a token
abbrev pub name_by : List ℕ → Option Token → List ℕ
name_by text None = []
name_by text (Some token) = name_of text token

unfoldable pub bytes_of_name : File → ℕ → List ℕ
bytes_of_name f t = name_by f.text (slice_get f.tokens t)

-- what stands for a name at a token, as scoping found it
abbrev pub mention_at : ℕ → Event → Option Target
mention_at t (event.Mentions u to) = if nat_eq u t then Some to else None
mention_at t _ = None

unfoldable pub mentioned : List Event → ℕ → Option Target
mentioned [] t = None
mentioned (e ∷ more) t = option_or (mentioned more t) (mention_at t e)

-- the place of a number in a list
unfoldable pub place_in : List ℕ → ℕ → Option ℕ
place_in numbers n = position_from (nat_eq n) 0 numbers

-- a local is one of the part, or one that the container around it captures
abbrev pub captured_or : ℕ → Option ℕ → Core
captured_or p (Some i) = captured p i
captured_or p None = missing

abbrev pub local_or : ℕ → Option ℕ → Option ℕ → Core
local_or p (Some i) outer = local p i
local_or p None outer = captured_or p outer

unfoldable pub local_at : Site → ℕ → ℕ → Core
local_at s p d = local_or p (place_in s.locals d) (place_in s.captured d)

abbrev pub declared_at : ℕ → List ℕ → Option ℕ → Core
declared_at p name (Some depth) = declared p depth name
declared_at p name None = missing

abbrev pub primitive_at : ℕ → Option Primitive → Core
primitive_at p (Some x) = primitive p x
primitive_at p None = missing

-- the name at a token, as what it stands for
abbrev pub named_by : File → Site → ℕ → Option Target → Core
named_by f s t (Some (target.Local d)) = local_at s (offset f s t) d
named_by f s t (Some (target.Declared c)) = declared_at (offset f s t) (bytes_of_name f t) (place_in s.around c)
named_by f s t (Some target.Primitive) = primitive_at (offset f s t) (primitive_of (bytes_of_name f t))
named_by f s t (Some target.Unknown) = missing
named_by f s t None = missing

unfoldable pub named : File → Site → ℕ → Core
named f s t = named_by f s t (mentioned f.events t)

-- the locals that a container captures, in order
unfoldable pub captures_from : ℕ → List Capture → List ℕ
captures_from c [] = []
captures_from c (x ∷ more) = if nat_eq x.container c then x.local ∷ captures_from c more else captures_from c more

-- their targets, for the container that begins at a token
unfoldable pub captures_at : Site → ℕ → List ℕ → List Core
captures_at s p [] = []
captures_at s p (d ∷ more) = local_at s p d ∷ captures_at s p more

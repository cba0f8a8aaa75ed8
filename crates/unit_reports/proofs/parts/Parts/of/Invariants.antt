-- The parts of the reports so far.
use Rattle.std.proofs.Common.{◌≡◌, flat_map, map}
use Rattle.unit_reports.specs.Told.{failure_in, function_in, next_in, text_in}
use Rattle.unit_reports.specs.Parts.{waiting_found}
use Rattle.unit_reports.proofs.parts.Parts.of.Given as goal

abbrev pub invariant-loop-report : goal.invariant-loop-report
invariant-loop-report l = record {
  failures : l.parts.failures.items ≡ flat_map failure_in l.yielded;
  functions : l.parts.functions.items ≡ flat_map function_in l.yielded;
  next : l.parts.next.items ≡ map next_in l.yielded;
  texts : l.parts.texts.items ≡ map text_in l.yielded;
  loops : l.parts.loops.items ≡ map waiting_found l.yielded;
}

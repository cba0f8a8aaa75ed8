use Rattle.question_runs.proofs.AtRest.{begins-sound, knows-soundly, finishes-soundly, ended-stays, waiting-stays, whole}
use Rattle.question_runs.proofs.results_at_rest.Goals as goal

pub returns-clause-begins : goal.returns-clause-begins
returns-clause-begins g c = λ l files roots known done first none. begins-sound l files roots known done first none

pub returns-clause-knows : goal.returns-clause-knows
returns-clause-knows g c = λ l files roots known more done u v sound k m is. knows-soundly l files roots known more done u v sound k m is

pub returns-clause-finishes : goal.returns-clause-finishes
returns-clause-finishes g c = λ l files roots known done more u r sound e is. finishes-soundly l files roots known done more u r sound e is

pub returns-clause-ended : goal.returns-clause-ended
returns-clause-ended g c = λ l files few more u up over. ended-stays l files few more u up over

pub returns-clause-waiting : goal.returns-clause-waiting
returns-clause-waiting g c = λ l files few more u v up e none. waiting-stays l files few more u v up e none

pub returns-clause-whole : goal.returns-clause-whole
returns-clause-whole g c = λ l files roots known done sound rest. whole l files roots known done sound rest

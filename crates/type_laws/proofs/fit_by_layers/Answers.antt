use Rattle.type_laws.proofs.Builds.{types_by_layers, values_by_layers, paths_by_layers, arguments_by_layers}
use Rattle.type_laws.proofs.fit_by_layers.Goals as goal

pub returns-clause-types : goal.returns-clause-types
returns-clause-types c = types_by_layers

pub returns-clause-values : goal.returns-clause-values
returns-clause-values c = values_by_layers

pub returns-clause-paths : goal.returns-clause-paths
returns-clause-paths c = paths_by_layers

pub returns-clause-arguments : goal.returns-clause-arguments
returns-clause-arguments c = arguments_by_layers

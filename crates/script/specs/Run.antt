-- The state of a run, as its parts have it.
use Rattle.plan.specs.Held.{standing}
use Rattle.script.specs.declared.run.Run.{Run}
use Rattle.script.specs.State.{State}

-- the state that a run is in
abbrev pub state : Run → State
state run = record {
  script = run.reader.script.now;
  place = run.reader.place;
  commands = run.commands;
  limit = run.planning.limit;
  standing = standing run.planning.plan;
  ended = run.ended;
}

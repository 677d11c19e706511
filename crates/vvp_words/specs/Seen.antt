-- What the code's own records of the words say.
use Rattle.std.specs.Prelude.{option_map}
use Rattle.vvp_words.specs.Command as command
use Rattle.vvp_words.specs.Entries as entries
use Rattle.vvp_words.specs.declared.command.Given.{Given}
use Rattle.vvp_words.specs.declared.entries.Entries.{Entries}
use Rattle.vvp_words.specs.declared.entries.Work.{Work}
use Rattle.vvp_words.specs.declared.entries.Work.TheVariants.{File, Workload, Toggles, Activity}

abbrev pub seen_given : Given → command.Given
seen_given given = record {
  operand = given.operand.now;
  events = option_map (λ s. s.now) given.events;
  mode = option_map (λ s. s.now) given.mode;
  order = option_map (λ s. s.now) given.order;
  stats = given.stats;
}

abbrev pub seen_work : Work → entries.Work
seen_work (File name) = entries.File name.now
seen_work (Workload size) = entries.Workload size
seen_work (Toggles name) = entries.Toggles name.now
seen_work (Activity name) = entries.Activity name.now

abbrev pub seen : Entries → entries.Entries
seen e = record { work = seen_work e.work; budget = e.budget; order = e.order; stats = e.stats }

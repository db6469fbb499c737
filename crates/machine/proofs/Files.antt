-- The cards of the checkpoint (specs/Files.antt) hold, by computation.
use Rattle.std.specs.Prelude.{◌≡◌, refl, [], ◌++◌}
use Rattle.machine.specs.Registers.{table, implemented_in, implemented}
use Rattle.machine.specs.Times.{pairs_ok, never}
use Rattle.machine.specs.Record.{registers, hidden_fields, accepted, blank, zeros}
use Rattle.machine.specs.Checkpoint.{bytes_of, number_of, times_listed, values_of, device_with, joined, section, register_entries, number_entries, time_entries, layout, written, file_of, save_fault, save_answer, holds, judged, read_part, read_parts, finished, load_answer}
use Rattle.machine.specs.Same.{same}
use Rattle.machine.specs.Cards.{Held, marked, failing_by, cards_hold}
use Rattle.machine.specs.Files.{sample, registers_in, file, loaded, saves, both, cards1, cards3, cards5, cards6, cards7, cards8, cards9, cards10, failing}

pub cards_held : Held
cards_held = marked cards_hold

-- once the cards before them hold, the machine's and then these in their parts: where one fails, the rest is not computed
given : {A : Type 0} → Held → A → A
given h a = a

-- no row fails: in parts, since the checker takes so many steps at a time
pub files_hold : failing (both cards1 ++ both cards9 ++ cards10) ≡ []
unfolding cards1 cards9 cards10 failing failing_by sample registers_in file loaded saves same table implemented_in implemented pairs_ok never registers hidden_fields accepted blank zeros bytes_of number_of times_listed values_of device_with joined section register_entries number_entries time_entries layout written file_of save_fault save_answer holds judged read_part read_parts finished load_answer
files_hold = given cards_held refl

pub faults_hold : failing (cards3 52 ++ cards5 51 ++ cards5 52 ++ cards7 51 ++ cards8 52) ≡ []
unfolding cards3 cards5 cards7 cards8 failing failing_by sample registers_in file loaded saves same table implemented_in implemented pairs_ok never registers hidden_fields accepted blank zeros bytes_of number_of times_listed values_of device_with joined section register_entries number_entries time_entries layout written file_of save_fault save_answer holds judged read_part read_parts finished load_answer
faults_hold = given (marked files_hold) refl

pub values_hold : failing (cards6 52) ≡ []
unfolding cards6 failing failing_by sample registers_in file loaded saves same table implemented_in implemented pairs_ok never registers hidden_fields accepted blank zeros bytes_of number_of times_listed values_of device_with joined section register_entries number_entries time_entries layout written file_of save_fault save_answer holds judged read_part read_parts finished load_answer
values_hold = given (marked faults_hold) refl

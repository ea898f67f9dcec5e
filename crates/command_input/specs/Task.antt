-- The command that the code reads from the words.
use Rattle.std.specs.Prelude.{◌≡◌, Option, option_map, IfSome}
use Rattle.command_input.specs.Words.{Command, Solve, Check, Extend, Gen, Meet, ListOrders, UnitModel, CheckUnit, Core, CheckCore, IsInGrammar}
use Rattle.command_input.specs.declared.words.Task.{Task}
use Rattle.command_input.specs.declared.words.Task.TheVariants as task

-- the command of a task
abbrev pub command_seen : Task → Command
command_seen (task.Solve kind file) = Solve kind file.now
command_seen (task.Check kind file verdict) = Check kind file.now verdict.now
command_seen (task.Extend kind file rows) = Extend kind file.now rows.now
command_seen (task.Core kind file) = Core kind file.now
command_seen (task.CheckCore kind file core) = CheckCore kind file.now core.now
command_seen (task.Gen seed columns rows) = Gen seed columns rows
command_seen (task.Meet columns first second) = Meet columns first.now second.now
command_seen (task.ListOrders kind file count) = ListOrders kind file.now count
command_seen (task.UnitModel file) = UnitModel file.now
command_seen (task.CheckUnit file unit) = CheckUnit file.now unit.now

-- a task stands for a command that the words ask for, within the grammar; or for neither
abbrev pub IsTaskOf : Option Task → Option Command → Type 0
IsTaskOf task command = (option_map command_seen task ≡ command) × IfSome task (λ t. IsInGrammar (command_seen t))

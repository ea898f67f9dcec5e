use Rattle.command_input.proofs.Files.{file_law, refusal_law}
use Rattle.command_input.proofs.tree_laws.tree_file_law.Goals as goal

pub returns : goal.returns
returns c = record { read = file_law; refused = refusal_law }

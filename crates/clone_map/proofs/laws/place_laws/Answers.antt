use Rattle.clone_map.proofs.ContigLaws.{contigs_only}
use Rattle.clone_map.proofs.ChainLaws.{neighbours_both, contig_runs}
use Rattle.clone_map.proofs.PlaceLaws.{places_only}
use Rattle.clone_map.proofs.RunLaws.{spans_within}
use Rattle.clone_map.proofs.laws.place_laws.Goals as goal

pub returns : goal.returns
returns c = record { places = places_only; contigs = contigs_only; spans = spans_within; runs = contig_runs; neighbours = neighbours_both }

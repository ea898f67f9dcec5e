use Rattle.std.proofs.Common.{◌≡◌, ◌++◌, drop, false}
use Rattle.matrix_read.specs.Names.{bytes_of, has_twice}
use Rattle.matrix_read.proofs.clones.put_names.Given as goal

abbrev pub invariant-loop-place : goal.invariant-loop-place
invariant-loop-place l = record {
  whole : bytes_of l.names.keys ++ bytes_of (drop l.place l.list) ≡ bytes_of l.list;
  once : has_twice (bytes_of l.names.keys) ≡ false;
}

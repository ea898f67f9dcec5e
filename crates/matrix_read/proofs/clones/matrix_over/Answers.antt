use Rattle.std.proofs.Common.{◌≡◌, length, sym, ◌∙◌, ap, arith}
use Rattle.matrix_read.specs.CloneNames.{clones_view, names_matrix, matrix_of_names}
use Rattle.matrix_read.specs.Names.{bytes_of}
use Rattle.matrix_read.proofs.CloneLemmas.{length-bytes, probe_twice, many_clones, within_limits}
use Rattle.matrix_read.proofs.clones.matrix_over.Goals as goal

pub returns-then-not-branch : goal.returns-then-not-branch
returns-then-not-branch c =
    c.refused.ensures ∙ sym (probe_twice c.args.probes.now c.args.clones.now c.requires.some c.requires.small (c.in_ok-put_names.ensures.twice c.if-not-branch.true))

pub returns-then-clones : goal.returns-then-clones
returns-then-clones c =
    let once = c.in_ok-put_names.ensures.once c.if-not-branch.false in
    c.refused-then-clones.ensures ∙ sym (many_clones c.args.probes.now c.args.clones.now c.requires.some c.requires.small once c.if-clones.true)

pub clone_matrix-requires-clause-some : goal.clone_matrix-requires-clause-some
clone_matrix-requires-clause-some c =
    let keys = c.put_names.new.names.keys in
    let same : length keys ≡ length c.args.probes.now = sym (length-bytes keys) ∙ ap length (c.in_ok-put_names.ensures.names c.if-not-branch.false) ∙ length-bytes c.args.probes.now in
    omega (arith, same, c.requires.some)

pub clone_matrix-requires-clause-small : goal.clone_matrix-requires-clause-small
clone_matrix-requires-clause-small c =
    let keys = c.put_names.new.names.keys in
    let same : length keys ≡ length c.args.probes.now = sym (length-bytes keys) ∙ ap length (c.in_ok-put_names.ensures.names c.if-not-branch.false) ∙ length-bytes c.args.probes.now in
    omega (arith, same, c.requires.small)

pub returns : goal.returns
returns c =
    let once = c.in_ok-put_names.ensures.once c.if-not-branch.false in
    let whole : matrix_of_names (bytes_of c.args.probes.now) (clones_view c.args.clones.now) ≡ names_matrix (bytes_of c.put_names.new.names.keys) (clones_view c.args.clones.now) =
    within_limits c.args.probes.now c.args.clones.now c.requires.some c.requires.small once c.if-clones.false
    ∙ ap (λ probes. names_matrix probes (clones_view c.args.clones.now)) (sym (c.in_ok-put_names.ensures.names c.if-not-branch.false)) in
    rw whole c.clone_matrix.ensures

use Rattle.bubble_pass.proofs.Finding.{Done, RanOut, RoseTo, clear_blank, linked_start, descending, marked_root, run_ground, run_tables, root_tables, run_done, run_found, run_under, root_done, root_found, done_kept, pass_ticks, pass_fair, under_holder, inside_root, pertinent_of}
use Rattle.bubble_pass.proofs.Grounds.{Marked, ground_root, marked_leads}
use Rattle.bubble_pass.proofs.tables.Tables.find.Goals as goal

pub link-requires : goal.link-requires
link-requires g c = (c.find.ensures.kept, linked_start c.args.arena.now g.leaves c.args.self.now c.find.new.self c.requires.1.1.1.0 c.find.ensures.kept)

pub link-requires-in-Node : goal.link-requires-in-Node
link-requires-in-Node g c = (c.find.ensures.kept, linked_start c.args.arena.now g.leaves c.args.self.now c.find.new.self c.requires.1.1.1.0 c.find.ensures.kept)

pub fill-requires : goal.fill-requires
fill-requires g c = λ κs h. (
  h,
  (
    c.requires.1.0,
    (
      c.requires.1.1.0,
      (
        c.requires.1.1.1.1.0,
        (
          c.requires.1.1.1.1.1,
          (run_ground c.args.arena.now g.leaves c.find.new.self c.link.new.self c.layout_law.ensures c.requires.1.1.1.1.0 c.find.ensures.kept c.in-Run.ensures.left c.link.ensures, clear_blank c.args.arena.now c.args.self.now c.requires.1.1.1.0),
        ),
      ),
    ),
  ),
)

pub descend-r-requires : goal.descend-r-requires
descend-r-requires g c = (c.requires.1.1.1.1.0, descending c.args.arena.now g.leaves c.find.new.self c.link-in-Node.new.self c.in-Node.top.index c.find.ensures.kept c.in-Node.ensures.end c.in-Node.ensures.left c.link-in-Node.ensures)

pub fill-requires-in-Node : goal.fill-requires-in-Node
fill-requires-in-Node g c = λ κs h. (
  h,
  (
    c.requires.1.0,
    (
      c.requires.1.1.0,
      (
        c.requires.1.1.1.1.0,
        (
          c.requires.1.1.1.1.1,
          (
            ground_root c.args.arena.now g.leaves c.find.new.self c.set_stage.new.self c.descend-r.new.self c.in-Node.top.index c.descend-r.result
                (marked_root c.args.arena.now g.leaves c.find.new.self c.set_stage.new.self c.link-in-Node.new.self c.descend-r.new.self c.in-Node.top.index c.descend-r.result c.layout_law.ensures c.requires.1.1.1.1.0 c.in-Node.ensures.left c.descend-r.ensures.descended c.set_stage.ensures.staged),
            clear_blank c.args.arena.now c.args.self.now c.requires.1.1.1.0,
          ),
        ),
      ),
    ),
  ),
)

pub returns-in-Run : goal.returns-in-Run
returns-in-Run g c =
    let r : RanOut c.args.arena.now g.leaves c.args.self.now c.find.new.self c.link.new.self c.fill.new.self = record {
      forest = c.layout_law.ensures;
      is_row = c.requires.1.1.1.1.0;
      clear = c.requires.1.1.1.0;
      kept = c.find.ensures.kept;
      left = c.in-Run.ensures.left;
      linked = c.link.ensures;
      swept = c.fill.ensures.swept;
      quiet = c.fill.ensures.quiet;
      complete = c.fill.ensures.complete;
    } in
    let d : Done c.args.arena.now g.leaves (run_tables c.args.self.now c.find.new.self c.link.new.self c.fill.new.self) = run_done c.args.arena.now g.leaves c.args.self.now c.find.new.self c.link.new.self c.fill.new.self r in
    record {
      kept = done_kept c.args.arena.now g.leaves _ d;
      size = c.fill.ensures.swept.sizes.0;
      answer = run_found c.args.arena.now g.leaves c.args.self.now c.find.new.self c.link.new.self c.fill.new.self r;
      ticks = pass_ticks c.args.arena.now g.leaves (run_tables c.args.self.now c.find.new.self c.link.new.self c.fill.new.self) c.args.steps.now c.find.new.steps c.fill.new.steps d c.find.ensures.ticks c.fill.ensures.ticks;
      fair = λ q a held holds most.
          pass_fair c.args.arena.now g.leaves (run_tables c.args.self.now c.find.new.self c.link.new.self c.fill.new.self) c.args.steps.now c.find.new.steps c.fill.new.steps q d
          (λ n p. under_holder c.args.arena.now g.leaves q c.in-Run.ensures.left.inside.q n (inside_root c.args.arena.now g.leaves c.layout_law.ensures c.requires.1.1.1.1.0 c.in-Run.ensures.left.inside) holds
          (run_under c.args.arena.now g.leaves c.args.self.now c.find.new.self c.link.new.self c.fill.new.self r n p))
          (λ b m. c.in-Run.ensures.fair q b tt holds m) c.fill.ensures.ticks a most;
    }

pub returns-in-Node : goal.returns-in-Node
returns-in-Node g c =
    let m : Marked c.args.arena.now g.leaves c.find.new.self c.set_stage.new.self c.descend-r.new.self c.in-Node.top.index c.descend-r.result =
    marked_root c.args.arena.now g.leaves c.find.new.self c.set_stage.new.self c.link-in-Node.new.self c.descend-r.new.self c.in-Node.top.index c.descend-r.result c.layout_law.ensures c.requires.1.1.1.1.0 c.in-Node.ensures.left
    c.descend-r.ensures.descended c.set_stage.ensures.staged in
    let r : RoseTo c.args.arena.now g.leaves c.args.self.now c.find.new.self c.set_stage.new.self c.link-in-Node.new.self c.descend-r.new.self c.fill-in-Node.new.self c.in-Node.top.index c.descend-r.result = record {
      marked = m;
      least = c.descend-r.ensures.smallest;
      clear = c.requires.1.1.1.0;
      linked = c.link-in-Node.ensures;
      cuts = c.descend-r.ensures.descended.cuts;
      swept = c.fill-in-Node.ensures.swept;
      quiet = c.fill-in-Node.ensures.quiet;
      complete = c.fill-in-Node.ensures.complete;
      firsts = c.descend-r.ensures.descended.at.linked.firsts;
      numbers = c.descend-r.ensures.descended.at.linked.numbers;
    } in
    let d : Done c.args.arena.now g.leaves (root_tables c.args.self.now c.set_stage.new.self c.descend-r.new.self c.fill-in-Node.new.self) =
    root_done c.args.arena.now g.leaves c.args.self.now c.find.new.self c.set_stage.new.self c.link-in-Node.new.self c.descend-r.new.self c.fill-in-Node.new.self c.in-Node.top.index c.descend-r.result r in
    record {
      kept = done_kept c.args.arena.now g.leaves _ d;
      size = c.fill-in-Node.ensures.swept.sizes.0;
      answer = root_found c.args.arena.now g.leaves c.args.self.now c.find.new.self c.set_stage.new.self c.link-in-Node.new.self c.descend-r.new.self c.fill-in-Node.new.self c.in-Node.top.index c.descend-r.result r;
      ticks = pass_ticks c.args.arena.now g.leaves (root_tables c.args.self.now c.set_stage.new.self c.descend-r.new.self c.fill-in-Node.new.self) c.args.steps.now c.find.new.steps c.fill-in-Node.new.steps d
          c.find.ensures.ticks c.fill-in-Node.ensures.ticks;
      fair = λ q a held holds most.
          pass_fair c.args.arena.now g.leaves (root_tables c.args.self.now c.set_stage.new.self c.descend-r.new.self c.fill-in-Node.new.self) c.args.steps.now c.find.new.steps c.fill-in-Node.new.steps q d
          (λ n p. under_holder c.args.arena.now g.leaves q c.descend-r.result.index n (pertinent_of c.args.arena.now g.leaves c.descend-r.result.index c.layout_law.ensures c.requires.1.1.1.1.0 c.descend-r.ensures.smallest) holds
          (marked_leads c.args.arena.now g.leaves c.find.new.self c.set_stage.new.self c.descend-r.new.self c.in-Node.top.index c.descend-r.result m n p))
          (λ b n. c.in-Node.ensures.fair q b tt holds n) c.fill-in-Node.ensures.ticks a most;
    }

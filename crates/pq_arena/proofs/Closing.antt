-- An arena whose nodes stand for a forest is that forest.
use Rattle.std.proofs.Common.{◌≡◌, sym, subst, List}
use Rattle.pq_arena.specs.declared.arena.Arena.TheInside.{Inside}
use Rattle.pq_arena.specs.declared.node.Link.{Link}
use Rattle.pq_arena.specs.declared.node.Head.{Head}
use Rattle.arena_model.specs.Layout.{Layout}
use Rattle.pq_arena.proofs.Read.{known}
use Rattle.pq_arena.specs.StandsFor.{StandsFor}
use Rattle.pq_arena.specs.View.{layout_of, IsArenaKept}
use Rattle.pq_arena.specs.Wiring.{links, heads}

pub stood : (a : Inside) → Layout → Type 0
stood a f = StandsFor (links a.nodes.items) (heads a.nodes.items) a.root a.spare a.count a.columns f

pub is_layout : (a : Inside) (f : Layout) → StandsFor (links a.nodes.items) (heads a.nodes.items) a.root a.spare a.count a.columns f → layout_of a ≡ f
is_layout a f h = known (links a.nodes.items) (heads a.nodes.items) a.root a.spare a.count a.columns f h

pub is_kept : (a : Inside) (f : Layout) → StandsFor (links a.nodes.items) (heads a.nodes.items) a.root a.spare a.count a.columns f → IsArenaKept a
is_kept a f h = record {
  stands = subst (λ g. StandsFor (links a.nodes.items) (heads a.nodes.items) a.root a.spare a.count a.columns g) (sym (is_layout a f h)) h;
}

pub opened : (a : Inside) (f : Layout) → layout_of a ≡ f → IsArenaKept a → StandsFor (links a.nodes.items) (heads a.nodes.items) a.root a.spare a.count a.columns f
opened a f e k = subst (λ g. StandsFor (links a.nodes.items) (heads a.nodes.items) a.root a.spare a.count a.columns g) e k.stands

pub kept_by : (a : Inside) (ls : List Link) (hs : List Head) (f : Layout) → links a.nodes.items ≡ ls → heads a.nodes.items ≡ hs →
    StandsFor ls hs a.root a.spare a.count a.columns f → IsArenaKept a
kept_by a ls hs f el eh h = is_kept a f (subst (λ z. StandsFor z (heads a.nodes.items) a.root a.spare a.count a.columns f) (sym el)
    (subst (λ z. StandsFor ls z a.root a.spare a.count a.columns f) (sym eh) h))

pub layout_by : (a : Inside) (ls : List Link) (hs : List Head) (f : Layout) → links a.nodes.items ≡ ls → heads a.nodes.items ≡ hs →
    StandsFor ls hs a.root a.spare a.count a.columns f → layout_of a ≡ f
layout_by a ls hs f el eh h = is_layout a f (subst (λ z. StandsFor z (heads a.nodes.items) a.root a.spare a.count a.columns f) (sym el)
    (subst (λ z. StandsFor ls z a.root a.spare a.count a.columns f) (sym eh) h))

-- Chains of clones along an order: a gap that no clone bridges is crossed by no chain.
use Rattle.std.proofs.Common.{◌≡◌, ◌⊎◌, ◌∙◌, ℕ, zero, suc, ◌+◌, ◌-◌, ◌<◌, ◌≤◌, List, [], ◌∷◌, ◌++◌, length, get_or, IsTrue, All, sym, ap, subst, inl, inr, arith}
use Rattle.std.specs.List.{Contains}
use Rattle.std.proofs.lemmas.Bool.{cases_eq, cases_lt}
use Rattle.std.proofs.lemmas.List.Elements.{All-contains}
use Rattle.column_order.proofs.Lists.{at_place, place_at}
use Rattle.column_order.proofs.Counts.{order_once, order_has}
use Rattle.column_order.specs.Orders.{has, place, IsOrder, Keeps, IsValidOrder, IsWithin}
use Rattle.clone_map.specs.Places.{probe_at, StandsAt}
use Rattle.clone_map.specs.Contigs.{Share, LeadsTo, AreChained, InOneContig}
use Rattle.clone_map.specs.Laws.{HasBoth}

module _ (c : ℕ) (o : List ℕ) (order : IsOrder c o) where
  -- no probe stands at two positions
  position_only : (i j : ℕ) → 1 ≤ i → i ≤ length o → 1 ≤ j → j ≤ length o → probe_at o i ≡ probe_at o j → i ≡ j
  position_only i j a b d f e =
      let once = order_once c o order in
      omega (arith, sym (place_at o once (i - 1) (omega arith)) ∙ ap (place o) e ∙ place_at o once (j - 1) (omega arith))

  -- each probe of a clone stands somewhere
  stands_from : (clone : List ℕ) (a : ℕ) → IsWithin c clone → IsTrue (has clone a) → (i : ℕ) × StandsAt o clone i × (probe_at o i ≡ a)
  stands_from clone a within h =
      let r = within a h in
      let p = at_place o a (order_has c o order a r.0 r.1) in
      let same : suc (place o a) - 1 ≡ place o a = omega arith in
      let there : probe_at o (suc (place o a)) ≡ a = ap (λ n. get_or o n 0) same ∙ p.1 in
      (suc (place o a), record { from = omega arith; to = omega (arith, p.0); holds = subst (λ x. IsTrue (has clone x)) (sym there) h }, there)

-- some clone has probes on both sides of the gap after a position
pub record IsBridged (clones : List (List ℕ)) (o : List ℕ) (gap : ℕ) : Type 0 where
  pub clone : List ℕ
  pub among : Contains clones clone
  pub first : ℕ
  pub last : ℕ
  pub one : StandsAt o clone first
  pub other : StandsAt o clone last
  pub before : first ≤ gap
  pub after : gap < last

-- the gap lies between two positions, whichever comes first
abbrev pub IsBetween : ℕ → ℕ → ℕ → Type 0
IsBetween i j gap = ((i ≤ gap) × (gap < j)) ⊎ ((j ≤ gap) × (gap < i))

module _ (clones : List (List ℕ)) (o : List ℕ) where
  -- a clone bridges each gap between two of its probes
  clone_bridges : (clone : List ℕ) (i j gap : ℕ) → Contains clones clone → StandsAt o clone i → StandsAt o clone j → IsBetween i j gap → IsBridged clones o gap
  clone_bridges clone i j gap among at_i at_j between =
      elim between [
        | inl h ↦ record { clone = clone; among = among; first = i; last = j; one = at_i; other = at_j; before = h.0; after = h.1 }
        | inr h ↦ record { clone = clone; among = among; first = j; last = i; one = at_j; other = at_i; before = h.0; after = h.1 }
      ]

  split_between : (i j k gap : ℕ) → IsBetween i j gap → IsBetween i k gap ⊎ IsBetween k j gap
  split_between i j k gap between =
      elim (cases_lt gap k) [
        | inl l ↦ elim between [ inl h ↦ inl (inl (h.0, l)) | inr h ↦ inr (inr (h.0, l)) ]
        | inr l ↦ elim between [ inl h ↦ inr (inl (l, h.1)) | inr h ↦ inl (inr (l, h.1)) ]
      ]

  module _ (c : ℕ) (order : IsOrder c o) (within : All (IsWithin c) clones) where
    -- each gap between the two ends of a chain is bridged by a clone of the chain
    pub chain_bridges : (chain : List (List ℕ)) (clone : List ℕ) (i j gap : ℕ) → StandsAt o clone i → 1 ≤ j → j ≤ length o → LeadsTo clones clone chain (probe_at o j) → IsBetween i j gap → IsBridged clones o gap
    chain_bridges [] clone i j gap at_i from to leads between =
        clone_bridges clone i j gap leads.0 at_i (record { from = from; to = to; holds = leads.1 }) between
    chain_bridges (next ∷ chain) clone i j gap at_i from to leads between =
        let share : Share clone next = leads.1 in
        let p = stands_from c o order clone share.probe (All-contains (IsWithin c) clones clone within leads.0) share.in_one in
        let at_p : StandsAt o clone p.0 = p.1 in
        let next_at_p : StandsAt o next p.0 = record { from = at_p.from; to = at_p.to; holds = subst (λ x. IsTrue (has next x)) (sym p.2) share.in_other } in
        elim (split_between i j p.0 gap between) [
          | inl h ↦ clone_bridges clone i p.0 gap leads.0 at_i at_p h
          | inr h ↦ chain_bridges chain next p.0 j gap next_at_p from to leads.2 h
        ]

    -- each gap between two positions of one contig is bridged
    pub contig_bridges : (i j gap : ℕ) → 1 ≤ i → i ≤ length o → 1 ≤ j → j ≤ length o → InOneContig clones (probe_at o i) (probe_at o j) → IsBetween i j gap → IsBridged clones o gap
    contig_bridges i j gap a b d e one between =
        elim one [
          | inl same ↦
              let is : i ≡ j = position_only c o order i j a b d e same in
              absurd (elim between [ inl h ↦ omega (arith, h.0, h.1) | inr h ↦ omega (arith, h.0, h.1) ])
          | inr chained ↦ chain_bridges chained.chain chained.clone i j gap (record { from = a; to = b; holds = chained.begins }) d e chained.leads between
        ]

  -- a kept clone stands at each position between two of its own
  stands_between : (clone : List ℕ) (i k j : ℕ) → Keeps o clone → StandsAt o clone i → StandsAt o clone j → i ≤ k → k ≤ j → StandsAt o clone k
  stands_between clone i k j keeps at_i at_j l u =
      elim (cases_eq i k) [
        | inl e ↦ subst (StandsAt o clone) e at_i
        | inr n ↦ elim (cases_eq k j) [
          | inl e ↦ subst (StandsAt o clone) (sym e) at_j
          | inr m ↦ record {
            from = omega (arith, at_i.from);
            to = omega (arith, at_j.to);
            holds = keeps (i - 1) (k - 1) (j - 1) (omega (arith, at_i.from)) (omega (arith, at_i.from)) (omega (arith, at_i.from, at_j.to)) at_i.holds at_j.holds;
          }
        ]
      ]

  -- where a gap is bridged, some clone has both its neighbours
  pub bridged_both : All (Keeps o) clones → (gap : ℕ) → IsBridged clones o gap → HasBoth clones o gap (gap + 1)
  bridged_both kept gap b =
      let keeps : Keeps o b.clone = All-contains (Keeps o) clones b.clone kept b.among in
      record {
        clone = b.clone;
        among = b.among;
        one = stands_between b.clone b.first gap b.last keeps b.one b.other b.before (omega (arith, b.after));
        other = stands_between b.clone b.first (gap + 1) b.last keeps b.one b.other (omega (arith, b.before)) (omega (arith, b.after));
      }

  both_chained : (i j : ℕ) → HasBoth clones o i j → AreChained clones (probe_at o i) (probe_at o j)
  both_chained i j h = record { clone = h.clone; chain = []; begins = h.one.holds; leads = (h.among, h.other.holds) }

  both_swapped : (i j : ℕ) → HasBoth clones o i j → HasBoth clones o j i
  both_swapped i j h = record { clone = h.clone; among = h.among; one = h.other; other = h.one }

  pub both_contig : (i j : ℕ) → HasBoth clones o i j → InOneContig clones (probe_at o i) (probe_at o j)
  both_contig i j h = inr (both_chained i j h)

  leads_on : (chain : List (List ℕ)) (clone : List ℕ) (a b : ℕ) → LeadsTo clones clone chain a → (next : AreChained clones a b) → LeadsTo clones clone (chain ++ next.clone ∷ next.chain) b
  leads_on [] clone a b leads next = (leads.0, record { probe = a; in_one = leads.1; in_other = next.begins }, next.leads)
  leads_on (x ∷ chain) clone a b leads next = (leads.0, leads.1, leads_on chain x a b leads.2 next)

  contig_trans : (a b d : ℕ) → InOneContig clones a b → InOneContig clones b d → InOneContig clones a d
  contig_trans a b d h k =
      elim h [
        | inl e ↦ subst (λ x. InOneContig clones x d) (sym e) k
        | inr f ↦ elim k [
          | inl e ↦ inr (subst (AreChained clones a) e f)
          | inr g ↦ inr (record { clone = f.clone; chain = f.chain ++ g.clone ∷ g.chain; begins = f.begins; leads = leads_on f.chain f.clone b d f.leads g })
        ]
      ]

  -- where each gap between two positions is bridged, their probes lie in one contig, both ways round
  pub bridged_contig : All (Keeps o) clones → (d i j : ℕ) → j ≡ i + d → ((gap : ℕ) → i ≤ gap → gap < j → IsBridged clones o gap) →
      InOneContig clones (probe_at o i) (probe_at o j) × InOneContig clones (probe_at o j) (probe_at o i)
  bridged_contig kept zero i j e gaps =
      let same : probe_at o i ≡ probe_at o j = ap (probe_at o) (omega arith) in
      (inl same, inl (sym same))
  bridged_contig kept (suc d) i j e gaps =
      let both : HasBoth clones o i (i + 1) = bridged_both kept i (gaps i (omega arith) (omega arith)) in
      let rest = bridged_contig kept d (i + 1) j (omega arith) (λ gap l u. gaps gap (omega arith) u) in (
        contig_trans (probe_at o i) (probe_at o (i + 1)) (probe_at o j) (both_contig i (i + 1) both) rest.0,
        contig_trans (probe_at o j) (probe_at o (i + 1)) (probe_at o i) rest.1 (both_contig (i + 1) i (both_swapped i (i + 1) both)),
      )

-- in a valid order two neighbouring probes lie in one contig exactly where some clone has both
pub neighbours_both : (c : ℕ) (clones : List (List ℕ)) (o : List ℕ) (i : ℕ) → All (IsWithin c) clones → IsValidOrder c clones o → 1 ≤ i → i + 1 ≤ length o →
    (InOneContig clones (probe_at o i) (probe_at o (i + 1)) → HasBoth clones o i (i + 1)) × (HasBoth clones o i (i + 1) → InOneContig clones (probe_at o i) (probe_at o (i + 1)))
neighbours_both c clones o i within valid l u = (
  λ h. bridged_both clones o valid.kept i (contig_bridges clones o c valid.order within i (i + 1) i l (omega arith) (omega arith) u h (inl (omega arith, omega arith))),
  both_contig clones o i (i + 1),
)

-- in a valid order each contig is a run of positions
pub contig_runs : (c : ℕ) (clones : List (List ℕ)) (o : List ℕ) (i j k : ℕ) → All (IsWithin c) clones → IsValidOrder c clones o → 1 ≤ i → i ≤ j → j ≤ k → k ≤ length o →
    InOneContig clones (probe_at o i) (probe_at o k) → InOneContig clones (probe_at o i) (probe_at o j)
contig_runs c clones o i j k within valid l m n u one =
    (bridged_contig clones o valid.kept (j - i) i j (omega arith) (λ gap p q. contig_bridges clones o c valid.order within i k gap l (omega arith) (omega arith) u one (inl (p, omega arith)))).0

-- Labelled ones of a list and their runs.
use Rattle.std.proofs.Common.{Bool, List, [], ap, arith, cond, eq-eqb, eqb, false, inl, inr, length, refl, subst, sym, true, ℕ, ◌++◌, ◌+◌, ◌∙◌, ◌∷◌, ◌≡◌, ◌≢◌, ◌≤◌}
use Rattle.std.proofs.lemmas.Bool.{cases_eq, ne_eqb, cases_Bool}
use Rattle.arena_model.specs.ChildLists.{head_or, last_or, none}
use Rattle.arena_model.proofs.Lists.{occurs_here, occurs_other}
use Rattle.full_pass.specs.Passing.{marks, runs}
use Rattle.column_order.specs.Orders.{occurs}

abbrev pub bit : Bool → ℕ
bit b = cond b 1 0

pub true_false : (b : Bool) → b ≡ true → b ≡ false → ⊥
true_false b e e' = cc

-- x is labelled, and was not; the others stay
pub record OneMore (l l' : ℕ → Bool) (x : ℕ) : Type 0 where
  pub before : l x ≡ false
  pub after : l' x ≡ true
  pub others : (y : ℕ) → y ≢ x → l' y ≡ l y

pub marks_with : (l l' : ℕ → Bool) (x : ℕ) (ks : List ℕ) → OneMore l l' x → marks l' ks ≡ marks l ks + occurs ks x
marks_with l l' x [] h = refl
marks_with l l' x (k ∷ ks) h =
    let r : marks l' ks ≡ marks l ks + occurs ks x = marks_with l l' x ks h in
    elim (cases_eq k x) [
      | inl e ↦
          let a : cond {A = ℕ} (l' k) 1 0 ≡ 1 = ap (λ z. cond {A = ℕ} (l' z) 1 0) e ∙ ap bit h.after in
          let b : cond {A = ℕ} (l k) 1 0 ≡ 0 = ap (λ z. cond {A = ℕ} (l z) 1 0) e ∙ ap bit h.before in
          let c : cond {A = ℕ} (eqb k x) 1 0 ≡ 1 = ap bit (eq-eqb k x e) in
          omega arith
      | inr ne ↦
          let a : cond {A = ℕ} (l' k) 1 0 ≡ cond {A = ℕ} (l k) 1 0 = ap bit (h.others k ne) in
          let c : cond {A = ℕ} (eqb k x) 1 0 ≡ 0 = ap bit (ne_eqb k x ne) in
          omega arith
    ]

bit_le : (b : Bool) → bit b ≤ 1
bit_le true = omega arith
bit_le false = omega arith

pub marks_le : (l : ℕ → Bool) (ks : List ℕ) → marks l ks ≤ length ks
marks_le l [] = omega arith
marks_le l (k ∷ ks) = let a : bit (l k) ≤ 1 = bit_le (l k) in omega (arith, marks_le l ks)

pub marks_some : (l : ℕ → Bool) (ks : List ℕ) (k : ℕ) → l k ≡ true → 1 ≤ occurs ks k → 1 ≤ marks l ks
marks_some l [] k e o = absurd (omega arith)
marks_some l (x ∷ xs) k e o = elim (cases_eq x k) [
  | inl q ↦ let a : bit (l x) ≡ 1 = ap (λ z. bit (l z)) q ∙ ap bit e in omega arith
  | inr ne ↦ let o' : 1 ≤ occurs xs k = (let z : occurs (x ∷ xs) k ≡ occurs xs k = occurs_other x k xs (λ q. ne (sym q)) in omega arith) in
      omega (arith, marks_some l xs k e o')
]

pub marks_all : (l : ℕ → Bool) (ks : List ℕ) (k : ℕ) → length ks ≤ marks l ks → 1 ≤ occurs ks k → l k ≡ true
marks_all l [] k m o = absurd (omega arith)
marks_all l (x ∷ xs) k m o =
    let a : bit (l x) ≤ 1 = bit_le (l x) in
    let b : marks l xs ≤ length xs = marks_le l xs in
    elim (cases_eq x k) [
      | inl q ↦ elim (cases_Bool (l x)) [
        | inl e ↦ subst (λ z. l z ≡ true) q e
        | inr e ↦ absurd (let c : bit (l x) ≡ 0 = ap bit e in omega arith)
      ]
      | inr ne ↦ marks_all l xs k (omega arith) (let z : occurs (x ∷ xs) k ≡ occurs xs k = occurs_other x k xs (λ q. ne (sym q)) in omega arith)
    ]

pub marks_each : (l : ℕ → Bool) (ks : List ℕ) → ((k : ℕ) → 1 ≤ occurs ks k → l k ≡ true) → length ks ≤ marks l ks
marks_each l [] all = omega arith
marks_each l (x ∷ xs) all =
    let a : bit (l x) ≡ 1 = ap bit (all x (occurs_here x xs)) in
    let r : length xs ≤ marks l xs = marks_each l xs (λ k o. all k (omega arith)) in omega arith

pub marks_two : (l : ℕ → Bool) (ks : List ℕ) (a b : ℕ) → l a ≡ true → l b ≡ true → a ≢ b → 1 ≤ occurs ks a → 1 ≤ occurs ks b → 2 ≤ marks l ks
marks_two l [] a b ea eb ne oa ob = absurd (omega arith)
marks_two l (x ∷ xs) a b ea eb ne oa ob = elim (cases_eq x a) [
  | inl q ↦ let c : bit (l x) ≡ 1 = ap (λ z. bit (l z)) q ∙ ap bit ea in
      let z : occurs (x ∷ xs) b ≡ occurs xs b = occurs_other x b xs (λ r. ne (sym q ∙ sym r)) in
      let m : 1 ≤ marks l xs = marks_some l xs b eb (omega arith) in omega arith
  | inr na ↦ let za : occurs (x ∷ xs) a ≡ occurs xs a = occurs_other x a xs (λ r. na (sym r)) in
      elim (cases_eq x b) [
        | inl q ↦ let c : bit (l x) ≡ 1 = ap (λ z. bit (l z)) q ∙ ap bit eb in
            let m : 1 ≤ marks l xs = marks_some l xs a ea (omega arith) in omega arith
        | inr nb ↦ let zb : occurs (x ∷ xs) b ≡ occurs xs b = occurs_other x b xs (λ r. nb (sym r)) in
            let m : 2 ≤ marks l xs = marks_two l xs a b ea eb ne (omega arith) (omega arith) in omega arith
      ]
]

-- runs
pub runs_same : (l l' : ℕ → Bool) (x : ℕ) (b : Bool) (ks : List ℕ) → OneMore l l' x → occurs ks x ≡ 0 → runs l' b ks ≡ runs l b ks
runs_same l l' x b [] h o = refl
runs_same l l' x b (k ∷ ks) h o =
    let ne : k ≢ x = (λ e. let i : 1 ≤ occurs (k ∷ ks) x = subst (λ z. 1 ≤ occurs (k ∷ ks) z) e (occurs_here k ks) in omega arith) in
    ap (λ t. cond t (cond b 0 1) 0 + runs l' t ks) (h.others k ne) ∙ ap (λ z. cond (l k) (cond b 0 1) 0 + z) (runs_same l l' x (l k) ks h (omega arith))

runs_after : (l l' : ℕ → Bool) (x : ℕ) (vs : List ℕ) → OneMore l l' x → l none ≡ false → occurs vs x ≡ 0 →
    runs l' true vs + bit (l (head_or vs none)) ≡ runs l false vs
runs_after l l' x [] h n o = ap (λ t. 0 + bit t) n
runs_after l l' x (v ∷ vs) h n o =
    let ne : v ≢ x = (λ e. let i : 1 ≤ occurs (v ∷ vs) x = subst (λ z. 1 ≤ occurs (v ∷ vs) z) e (occurs_here v vs) in omega arith) in
    let s : runs l' true (v ∷ vs) ≡ cond (l v) 0 0 + runs l (l v) vs =
    ap (λ t. cond t 0 0 + runs l' t vs) (h.others v ne) ∙ ap (λ z. cond (l v) 0 0 + z) (runs_same l l' x (l v) vs h (omega arith)) in
    let z : cond {A = ℕ} (l v) 0 0 + bit (l v) ≡ cond {A = ℕ} (l v) 1 0 = turn (l v) in
    omega arith
  where
    turn : (b : Bool) → cond {A = ℕ} b 0 0 + bit b ≡ cond {A = ℕ} b 1 0
    turn true = refl
    turn false = refl

pub runs_with : (l l' : ℕ → Bool) (x d : ℕ) (us vs : List ℕ) → OneMore l l' x → l none ≡ false → occurs us x ≡ 0 → occurs vs x ≡ 0 →
    runs l' (l d) (us ++ x ∷ vs) + (bit (l (last_or us d)) + bit (l (head_or vs none))) ≡ runs l (l d) (us ++ x ∷ vs) + 1
runs_with l l' x d [] vs h n ou ov =
    let a : runs l' true vs + bit (l (head_or vs none)) ≡ runs l false vs = runs_after l l' x vs h n ov in
    let e' : runs l' (l d) (x ∷ vs) ≡ cond (l d) 0 1 + runs l' true vs = ap (λ t. cond t (cond (l d) 0 1) 0 + runs l' t vs) h.after in
    let e : runs l (l d) (x ∷ vs) ≡ 0 + runs l false vs = ap (λ t. cond t (cond (l d) 0 1) 0 + runs l t vs) h.before in
    let z : cond {A = ℕ} (l d) 0 1 + bit (l d) ≡ 1 = turn (l d) in
    omega arith
  where
    turn : (b : Bool) → cond {A = ℕ} b 0 1 + bit b ≡ 1
    turn true = refl
    turn false = refl
runs_with l l' x d (u ∷ us) vs h n ou ov =
    let ne : u ≢ x = (λ e. let i : 1 ≤ occurs (u ∷ us) x = subst (λ z. 1 ≤ occurs (u ∷ us) z) e (occurs_here u us) in omega arith) in
    let r : runs l' (l u) (us ++ x ∷ vs) + (bit (l (last_or us u)) + bit (l (head_or vs none))) ≡ runs l (l u) (us ++ x ∷ vs) + 1 =
    runs_with l l' x u us vs h n (omega arith) ov in
    let e' : runs l' (l d) (u ∷ (us ++ x ∷ vs)) ≡ cond (l u) (cond (l d) 0 1) 0 + runs l' (l u) (us ++ x ∷ vs) =
    ap (λ t. cond t (cond (l d) 0 1) 0 + runs l' t (us ++ x ∷ vs)) (h.others u ne) in
    omega arith

pub runs_some : (l : ℕ → Bool) (ks : List ℕ) (k : ℕ) → l k ≡ true → 1 ≤ occurs ks k → 1 ≤ runs l false ks
runs_some l [] k e o = absurd (omega arith)
runs_some l (x ∷ xs) k e o =
    (elim (l x) as (λ b. l x ≡ b → 1 ≤ cond b 1 0 + runs l b xs) [
      | true ↦ λ _. omega arith
      | false ↦ λ f. elim (cases_eq x k) [
        | inl q ↦ absurd (true_false (l x) (subst (λ z. l z ≡ true) (sym q) e) f)
        | inr ne ↦ let z : occurs (x ∷ xs) k ≡ occurs xs k = occurs_other x k xs (λ q. ne (sym q)) in
            let r : 1 ≤ runs l false xs = runs_some l xs k e (omega arith) in omega arith
      ]
    ]) refl

-- the labelled ones stand side by side
pub record OneRun (l : ℕ → Bool) (ks : List ℕ) : Type 0 where
  pub us : List ℕ
  pub rs : List ℕ
  pub vs : List ℕ
  pub is : ks ≡ us ++ (rs ++ vs)
  pub inside : (k : ℕ) → 1 ≤ occurs rs k → l k ≡ true
  pub all : (k : ℕ) → 1 ≤ occurs ks k → l k ≡ true → 1 ≤ occurs rs k

record RunFrom (l : ℕ → Bool) (ks : List ℕ) : Type 0 where
  rs : List ℕ
  vs : List ℕ
  is : ks ≡ rs ++ vs
  inside : (k : ℕ) → 1 ≤ occurs rs k → l k ≡ true
  all : (k : ℕ) → 1 ≤ occurs ks k → l k ≡ true → 1 ≤ occurs rs k

-- it goes on to x before it
run_more : (l : ℕ → Bool) (x : ℕ) (xs : List ℕ) → l x ≡ true → RunFrom l xs → RunFrom l (x ∷ xs)
run_more l x xs e r = record {
  rs = x ∷ r.rs;
  vs = r.vs;
  is = ap (λ z. x ∷ z) r.is;
  inside = λ k o. elim (cases_eq x k) [
    | inl q ↦ subst (λ z. l z ≡ true) q e
    | inr ne ↦ r.inside k (let z : occurs (x ∷ r.rs) k ≡ occurs r.rs k = occurs_other x k r.rs (λ q. ne (sym q)) in omega arith)
  ];
  all = λ k o f. elim (cases_eq x k) [
    | inl q ↦ subst (λ z. 1 ≤ occurs (x ∷ r.rs) z) q (occurs_here x r.rs)
    | inr ne ↦ let z : occurs (x ∷ xs) k ≡ occurs xs k = occurs_other x k xs (λ q. ne (sym q)) in
        let i : 1 ≤ occurs r.rs k = r.all k (omega arith) f in omega arith
  ];
}

run_from : (l : ℕ → Bool) (ks : List ℕ) → runs l true ks ≤ 0 → RunFrom l ks
run_from l [] h = record { rs = []; vs = []; is = refl; inside = λ k o. absurd (omega arith); all = λ k o e. absurd (omega arith) }
run_from l (x ∷ xs) h =
    (elim (l x) as (λ b. l x ≡ b → cond b 0 0 + runs l b xs ≤ 0 → RunFrom l (x ∷ xs)) [
      | true ↦ λ e g. run_more l x xs e (run_from l xs (omega arith))
      | false ↦ λ e g. record {
        rs = [];
        vs = x ∷ xs;
        is = refl;
        inside = λ k o. absurd (omega arith);
        all = λ k o f. absurd (elim (cases_eq x k) [
          | inl q ↦ true_false (l x) (subst (λ z. l z ≡ true) (sym q) f) e
          | inr ne ↦ let z : occurs (x ∷ xs) k ≡ occurs xs k = occurs_other x k xs (λ q. ne (sym q)) in
              let i : 1 ≤ runs l false xs = runs_some l xs k f (omega arith) in omega arith
        ]);
      }
    ]) refl h

pub one_run_of : (l : ℕ → Bool) (ks : List ℕ) → runs l false ks ≤ 1 → OneRun l ks
one_run_of l [] h = record { us = []; rs = []; vs = []; is = refl; inside = λ k o. absurd (omega arith); all = λ k o e. absurd (omega arith) }
one_run_of l (x ∷ xs) h =
    (elim (l x) as (λ b. l x ≡ b → cond b 1 0 + runs l b xs ≤ 1 → OneRun l (x ∷ xs)) [
      | true ↦ λ e g. let r : RunFrom l (x ∷ xs) = run_more l x xs e (run_from l xs (omega arith)) in
          record { us = []; rs = r.rs; vs = r.vs; is = r.is; inside = r.inside; all = r.all }
      | false ↦ λ e g. let r = one_run_of l xs (omega arith) in record {
        us = x ∷ r.us;
        rs = r.rs;
        vs = r.vs;
        is = ap (λ z. x ∷ z) r.is;
        inside = r.inside;
        all = λ k o f. elim (cases_eq x k) [
          | inl q ↦ absurd (true_false (l x) (subst (λ z. l z ≡ true) (sym q) f) e)
          | inr ne ↦ r.all k (let z : occurs (x ∷ xs) k ≡ occurs xs k = occurs_other x k xs (λ q. ne (sym q)) in omega arith) f
        ];
      }
    ]) refl h

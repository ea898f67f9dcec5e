-- The file of a tree: a byte that no tree's text has, and what stands behind the text.
use Rattle.std.proofs.Common.{◌≡◌, ◌≢◌, ◌∙◌, ℕ, suc, ◌+◌, ◌-◌, ◌<◌, ◌≤◌, ◌^◌, List, [], ◌∷◌, ◌++◌, length, take, drop, get_or, Option, Some, None, refl, sym, ap, subst, inl, inr, arith, eq-eqb, length-append, append-nil}
use Rattle.std.proofs.lemmas.Bool.{cases_eq, ne_eqb, lt-ltb, le-ltb, cases_lt}
use Rattle.std.proofs.lemmas.List.{take-append-drop, drop_all, take_all, get_or-append-add, get_or_append_left}
use Rattle.std.proofs.Math.Seq.{drop-cons, take-append_seam, get_or-append_seam}
use Rattle.row_model.specs.declared.refusal.Read.TheVariants as read
use Rattle.row_model.specs.declared.code.TheConstants.{LIMIT, TREE}
use Rattle.row_model.specs.declared.TheConstants.{MAX_COLUMNS, MAX_FILE_BYTES}
use Rattle.text_lines.specs.Lines.{without_mark}
use Rattle.pq_tree.specs.Outline.{Outline}
use Rattle.pq_tree.specs.Proper.{IsProper}
use Rattle.pq_tree.specs.Text.{tree_text}
use Rattle.pq_tree.specs.Reading.{State, step, run, start, tree_of}
use Rattle.pq_tree.specs.PqTree.{column_count, outline}
use Rattle.pq_tree.specs.declared.PqTree.{PqTree}
use Rattle.pq_tree.proofs.Runs.{run_on, run_stop}
use Rattle.pq_tree.proofs.Found.{IsFound, tree_of_found}
use Rattle.pq_tree.proofs.Again.{tree_of_proper}
use Rattle.command_input.proofs.TreeReading.{reads_same}
use Rattle.command_input.specs.TreeFiles.{end_length, without_end, read_tree, tree_file, IsLineEnd, WritesTree, TreeFileLaw, TreeRefusalLaw}

-- a line feed and a carriage return stop the reading of a tree
feed_stops : (c : ℕ) (s : State) → step c s 10 ≡ None
unfolding step
feed_stops c s = refl

return_stops : (c : ℕ) (s : State) → step c s 13 ≡ None
unfolding step
return_stops c s = refl

stopped : (c b : ℕ) → ((s : State) → step c s b ≡ None) → (xs ys : List ℕ) (s : State) → run c s (xs ++ b ∷ ys) ≡ None
stopped c b stop [] ys s = run_stop c s b ys (stop s)
stopped c b stop (x ∷ xs) ys s =
    (elim (step c s x) as (λ o. step c s x ≡ o → run c s (x ∷ (xs ++ b ∷ ys)) ≡ None) [
      | Some t ↦ λ e. run_on c s t x (xs ++ b ∷ ys) e ∙ stopped c b stop xs ys t
      | None ↦ λ e. run_stop c s x (xs ++ b ∷ ys) e
    ]) refl

-- so no tree's text has one
text_lacks : (c b : ℕ) (t : Outline) → c ≤ MAX_COLUMNS → IsProper c t → ((s : State) → step c s b ≡ None) → (xs ys : List ℕ) → tree_text t ≡ xs ++ b ∷ ys → ⊥
unfolding tree_of
text_lacks c b t few proper stop xs ys e =
    let found : tree_of c (tree_text t) ≡ Some t = tree_of_proper c t (omega (arith, few)) proper in
    let none : run c start (xs ++ b ∷ ys) ≡ None = stopped c b stop xs ys start in
    let found : run c start (xs ++ b ∷ ys) ≡ Some t = subst (λ x. run c start x ≡ Some t) e found in
    absurd (cc)

-- a list as what stands before a place, and what stands there
split_at : (xs : List ℕ) (i : ℕ) → i < length xs → xs ≡ take i xs ++ get_or xs i 0 ∷ drop (suc i) xs
split_at xs i h = sym (take-append-drop i xs) ∙ ap (λ ys. take i xs ++ ys) (drop-cons xs i 0 h)

last_one : (xs : List ℕ) → 1 ≤ length xs → drop (length xs - 1) xs ≡ get_or xs (length xs - 1) 0 ∷ []
last_one xs h = drop-cons xs (length xs - 1) 0 (omega arith) ∙ ap (λ ys. get_or xs (length xs - 1) 0 ∷ ys) (drop_all (suc (length xs - 1)) xs (omega arith))

last_two : (xs : List ℕ) → 2 ≤ length xs → drop (length xs - 2) xs ≡ get_or xs (length xs - 2) 0 ∷ get_or xs (length xs - 1) 0 ∷ []
last_two xs h =
    let e : suc (length xs - 2) ≡ length xs - 1 = omega arith in
    drop-cons xs (length xs - 2) 0 (omega arith) ∙
    ap (λ ys. get_or xs (length xs - 2) 0 ∷ ys) (ap (λ n. drop n xs) e ∙ last_one xs (omega arith))

-- what stands behind a text without its end is an end of line
pub end_of : (xs : List ℕ) → IsLineEnd (drop (length xs - end_length xs) xs)
end_of xs =
    elim (cases_eq (get_or xs (length xs - 1) 0) 10) [
      | inl feed ↦
          let some : 1 ≤ length xs = elim (cases_lt 0 (length xs)) [ inl l ↦ omega arith | inr n ↦ absurd (nothing xs (omega arith) feed) ] in
          elim (cases_eq (get_or xs (length xs - 2) 0) 13) [
            | inl back ↦
                let two : 2 ≤ length xs = elim (cases_lt 1 (length xs)) [
                  | inl l ↦ omega arith
                  | inr n ↦
                      let same : length xs - 1 ≡ length xs - 2 = omega arith in
                      absurd (omega (arith, sym (ap (λ i. get_or xs i 0) same) ∙ feed, back))
                ] in
                rw (eq-eqb (get_or xs (length xs - 1) 0) 10 feed, eq-eqb (get_or xs (length xs - 2) 0) 13 back)
                (inr (inr (last_two xs two ∙ ap (λ b. b ∷ get_or xs (length xs - 1) 0 ∷ []) back ∙ ap (λ b. 13 ∷ b ∷ []) feed)))
            | inr other ↦
                rw (eq-eqb (get_or xs (length xs - 1) 0) 10 feed, ne_eqb (get_or xs (length xs - 2) 0) 13 other)
                (inr (inl (last_one xs some ∙ ap (λ b. b ∷ []) feed)))
          ]
      | inr other ↦ rw (ne_eqb (get_or xs (length xs - 1) 0) 10 other) (inl (drop_all (length xs - 0) xs (omega arith)))
    ]
  where
    nothing : (xs : List ℕ) → length xs ≤ 0 → get_or xs (length xs - 1) 0 ≡ 10 → ⊥
    nothing [] h e = absurd (omega (arith, e))
    nothing (x ∷ xs) h e = absurd (omega arith)

-- a text without a line feed or a carriage return is what is left of it with an end of line behind it
left_plain : (xs : List ℕ) → ((ys zs : List ℕ) → xs ≡ ys ++ 10 ∷ zs → ⊥) → without_end xs ≡ xs
left_plain xs none =
    elim (cases_eq (get_or xs (length xs - 1) 0) 10) [
      | inl feed ↦
          elim (cases_lt 0 (length xs)) [
            | inl l ↦ absurd (none (take (length xs - 1) xs) (drop (suc (length xs - 1)) xs)
                (split_at xs (length xs - 1) (omega arith) ∙ ap (λ b. take (length xs - 1) xs ++ b ∷ drop (suc (length xs - 1)) xs) feed))
            | inr n ↦ take_all (length xs - end_length xs) xs (omega arith)
          ]
      | inr other ↦ rw (ne_eqb (get_or xs (length xs - 1) 0) 10 other) (take_all (length xs - 0) xs (omega arith))
    ]

left_feed : (xs : List ℕ) → ((ys zs : List ℕ) → xs ≡ ys ++ 13 ∷ zs → ⊥) → without_end (xs ++ 10 ∷ []) ≡ xs
left_feed xs none =
    let all = xs ++ 10 ∷ [] in
    let n : length all - 1 ≡ length xs = omega (arith, length-append xs (10 ∷ [])) in
    let feed : get_or all (length all - 1) 0 ≡ 10 = ap (λ i. get_or all i 0) n ∙ get_or-append_seam xs 10 [] 0 in
    let before : get_or all (length all - 2) 0 ≢ 13 = λ e. no_return xs none e in
    rw (eq-eqb (get_or all (length all - 1) 0) 10 feed, ne_eqb (get_or all (length all - 2) 0) 13 before) (ap (λ i. take i all) n ∙ take-append_seam xs (10 ∷ []))
  where
    no_return : (xs : List ℕ) → ((ys zs : List ℕ) → xs ≡ ys ++ 13 ∷ zs → ⊥) → get_or (xs ++ 10 ∷ []) (length (xs ++ 10 ∷ []) - 2) 0 ≡ 13 → ⊥
    no_return xs none e =
        let m : length (xs ++ 10 ∷ []) - 2 ≡ length xs - 1 = omega (arith, length-append xs (10 ∷ [])) in
        elim (cases_lt 0 (length xs)) [
          | inl l ↦
              let at : get_or xs (length xs - 1) 0 ≡ 13 = sym (get_or_append_left xs (10 ∷ []) 0 (length xs - 1) (omega arith)) ∙ sym (ap (λ i. get_or (xs ++ 10 ∷ []) i 0) m) ∙ e in
              none (take (length xs - 1) xs) (drop (suc (length xs - 1)) xs)
              (split_at xs (length xs - 1) (omega arith) ∙ ap (λ b. take (length xs - 1) xs ++ b ∷ drop (suc (length xs - 1)) xs) at)
          | inr h ↦
              let z : length (xs ++ 10 ∷ []) - 2 ≡ length xs = omega (arith, m, h) in
              absurd (omega (arith, sym (ap (λ i. get_or (xs ++ 10 ∷ []) i 0) z ∙ get_or-append_seam xs 10 [] 0) ∙ e))
        ]

left_return : (xs : List ℕ) → without_end (xs ++ 13 ∷ 10 ∷ []) ≡ xs
left_return xs =
    let all = xs ++ 13 ∷ 10 ∷ [] in
    let n : length all - 1 ≡ length xs + 1 = omega (arith, length-append xs (13 ∷ 10 ∷ [])) in
    let m : length all - 2 ≡ length xs = omega (arith, length-append xs (13 ∷ 10 ∷ [])) in
    let feed : get_or all (length all - 1) 0 ≡ 10 = ap (λ i. get_or all i 0) n ∙ get_or-append-add xs (13 ∷ 10 ∷ []) 1 0 in
    let back : get_or all (length all - 2) 0 ≡ 13 = ap (λ i. get_or all i 0) m ∙ get_or-append_seam xs 13 (10 ∷ []) 0 in
    rw (eq-eqb (get_or all (length all - 1) 0) 10 feed, eq-eqb (get_or all (length all - 2) 0) 13 back) (ap (λ i. take i all) m ∙ take-append_seam xs (13 ∷ 10 ∷ []))

-- the tree of a text without its end
read_of : (c : ℕ) (text : List ℕ) (t : Outline) → c ≤ MAX_COLUMNS → IsProper c t → (end : List ℕ) → IsLineEnd end → text ≡ tree_text t ++ end → tree_of c (without_end text) ≡ Some t
read_of c text t few proper end is e =
    let lacks_feed : (ys zs : List ℕ) → tree_text t ≡ ys ++ 10 ∷ zs → ⊥ = text_lacks c 10 t few proper (feed_stops c) in
    let lacks_return : (ys zs : List ℕ) → tree_text t ≡ ys ++ 13 ∷ zs → ⊥ = text_lacks c 13 t few proper (return_stops c) in
    let left : without_end text ≡ tree_text t =
    elim is [
      | inl none ↦ ap without_end (e ∙ ap (λ x. tree_text t ++ x) none ∙ append-nil (tree_text t)) ∙ left_plain (tree_text t) lacks_feed
      | inr (inl feed) ↦ ap without_end (e ∙ ap (λ x. tree_text t ++ x) feed) ∙ left_feed (tree_text t) lacks_return
      | inr (inr both) ↦ ap without_end (e ∙ ap (λ x. tree_text t ++ x) both) ∙ left_return (tree_text t)
    ] in
    ap (tree_of c) left ∙ tree_of_proper c t (omega (arith, few)) proper

-- where the file is not too long
short_file : (c : ℕ) (bytes : List ℕ) → c < 2 ^ 64 → length bytes ≤ MAX_FILE_BYTES → tree_file c bytes ≡ read_tree (tree_of c (without_end (without_mark bytes)))
unfolding tree_file
short_file c bytes small h = rw (le-ltb MAX_FILE_BYTES (length bytes) h) (ap read_tree (reads_same c (without_end (without_mark bytes)) small))

pub long_file : (c : ℕ) (bytes : List ℕ) → MAX_FILE_BYTES < length bytes → tree_file c bytes ≡ read.Refused (record { code = LIMIT; line = 0 })
unfolding tree_file
long_file c bytes h = rw (lt-ltb MAX_FILE_BYTES (length bytes) h) refl

written : (c : ℕ) (bytes : List ℕ) (t : Outline) → c ≤ MAX_COLUMNS → tree_of c (without_end (without_mark bytes)) ≡ Some t → WritesTree c bytes t
written c bytes t few e =
    let text = without_mark bytes in
    let f : IsFound c t (without_end text) = tree_of_found c (without_end text) t (omega (arith, few)) e in
    record {
      proper = f.proper;
      end = drop (length text - end_length text) text;
      is_end = end_of text;
      text = sym (take-append-drop (length text - end_length text) text) ∙ ap (λ x. x ++ drop (length text - end_length text) text) (sym f.text);
    }

pub file_law : TreeFileLaw
file_law c bytes t few short = (
  λ e. written c bytes t few (of_read (tree_of c (without_end (without_mark bytes))) (sym (short_file c bytes (omega (arith, few)) short) ∙ e)),
  λ w. short_file c bytes (omega (arith, few)) short ∙ ap read_tree (read_of c (without_mark bytes) t few w.proper w.end w.is_end w.text),
)
  where
    of_read : (o : Option Outline) → read_tree o ≡ read.Ok t → o ≡ Some t
    of_read (Some u) e = ap Some (cc)
    of_read None e = absurd (cc)

pub refusal_law : TreeRefusalLaw
refusal_law =
    record {
      none = λ c bytes few short no.
          short_file c bytes (omega (arith, few)) short ∙
          (elim (tree_of c (without_end (without_mark bytes))) as (λ o. tree_of c (without_end (without_mark bytes)) ≡ o → read_tree o ≡ read.Refused (record { code = TREE; line = 0 })) [
            | Some t ↦ λ e. absurd (no t (written c bytes t few e))
            | None ↦ λ e. refl
          ]) refl;
      long = long_file;
    }

-- what the parser answers on such a file
pub parsed_tree : (c : ℕ) (bytes : List ℕ) (t : PqTree) → 1 ≤ c → c < 2 ^ 64 → column_count t ≡ c → without_end (without_mark bytes) ≡ tree_text (outline t) → length bytes ≤ MAX_FILE_BYTES →
    read.Ok (outline t) ≡ tree_file c bytes
parsed_tree c bytes t from small e text short =
    let proper : IsProper c (outline t) = subst (λ k. IsProper k (outline t)) e t.proper in
    sym (short_file c bytes small short ∙ ap read_tree (ap (tree_of c) text ∙ tree_of_proper c (outline t) small proper))

pub parsed_none : (c : ℕ) (bytes : List ℕ) → c < 2 ^ 64 → ((t : Outline) → IsProper c t → without_end (without_mark bytes) ≢ tree_text t) → length bytes ≤ MAX_FILE_BYTES →
    read.Refused (record { code = TREE; line = 0 }) ≡ tree_file c bytes
parsed_none c bytes small none short =
    let text = without_end (without_mark bytes) in
    sym (short_file c bytes small short ∙
    (elim (tree_of c text) as (λ o. tree_of c text ≡ o → read_tree o ≡ read.Refused (record { code = TREE; line = 0 })) [
      | Some t ↦ λ e. let f : IsFound c t text = tree_of_found c text t small e in absurd (none t f.proper (sym f.text))
      | None ↦ λ e. refl
    ]) refl)

-- What the walk over trees says, by what the row has of the first tree.
use Rattle.std.proofs.Common.{◌≡◌, ◌⊎◌, ◌∙◌, ℕ, ◌||◌, List, IsTrue, IsFalse, sym, cond}
use Rattle.std.proofs.lemmas.Bool.{or_cases, or_parts, cond-true, cond-false}
use Rattle.pq_tree.specs.Outline.{Outline, Forest, tree_and, leaves, leaves_of}
use Rattle.pq_tree.specs.Nodes.{meets}
use Rattle.verdict_judge.specs.HoldsWalk.{misses, resumes, is_gapped}

-- the row misses a column of it
resumes_missed : (row : List ℕ) (t : Outline) (ts : Forest) → IsTrue (misses row (leaves t)) → resumes row (tree_and t ts) ≡ (meets row (leaves t) || meets row (leaves_of ts))
resumes_missed row t ts n = cond-true (misses row (leaves t)) (meets row (leaves t) || meets row (leaves_of ts)) (resumes row ts) n

-- and then it has a column of it or of a later one
pub resumes_at : (row : List ℕ) (t : Outline) (ts : Forest) → IsTrue (misses row (leaves t)) → IsTrue (resumes row (tree_and t ts)) → IsTrue (meets row (leaves t)) ⊎ IsTrue (meets row (leaves_of ts))
resumes_at row t ts n h = or_cases (meets row (leaves t)) (meets row (leaves_of ts)) (sym (resumes_missed row t ts n) ∙ h)

pub resumes_none : (row : List ℕ) (t : Outline) (ts : Forest) → IsTrue (misses row (leaves t)) → IsFalse (resumes row (tree_and t ts)) → IsFalse (meets row (leaves t)) × IsFalse (meets row (leaves_of ts))
resumes_none row t ts n h = or_parts (meets row (leaves t)) (meets row (leaves_of ts)) (sym (resumes_missed row t ts n) ∙ h)

-- the row has each column of it
pub resumes_whole : (row : List ℕ) (t : Outline) (ts : Forest) → IsFalse (misses row (leaves t)) → resumes row (tree_and t ts) ≡ resumes row ts
resumes_whole row t ts n = cond-false (misses row (leaves t)) (meets row (leaves t) || meets row (leaves_of ts)) (resumes row ts) n

-- the row has no column of it
pub gapped_none : (row : List ℕ) (t : Outline) (ts : Forest) → IsFalse (meets row (leaves t)) → is_gapped row (tree_and t ts) ≡ is_gapped row ts
gapped_none row t ts n = cond-false (meets row (leaves t)) (cond (misses row (leaves t)) (meets row (leaves_of ts)) (resumes row ts)) (is_gapped row ts) n

gapped_some : (row : List ℕ) (t : Outline) (ts : Forest) → IsTrue (meets row (leaves t)) → is_gapped row (tree_and t ts) ≡ cond (misses row (leaves t)) (meets row (leaves_of ts)) (resumes row ts)
gapped_some row t ts m = cond-true (meets row (leaves t)) (cond (misses row (leaves t)) (meets row (leaves_of ts)) (resumes row ts)) (is_gapped row ts) m

-- the row has a column of it and misses one
pub gapped_part : (row : List ℕ) (t : Outline) (ts : Forest) → IsTrue (meets row (leaves t)) → IsTrue (misses row (leaves t)) → is_gapped row (tree_and t ts) ≡ meets row (leaves_of ts)
gapped_part row t ts m n = gapped_some row t ts m ∙ cond-true (misses row (leaves t)) (meets row (leaves_of ts)) (resumes row ts) n

-- the row has a column of it and misses none
pub gapped_whole : (row : List ℕ) (t : Outline) (ts : Forest) → IsTrue (meets row (leaves t)) → IsFalse (misses row (leaves t)) → is_gapped row (tree_and t ts) ≡ resumes row ts
gapped_whole row t ts m n = gapped_some row t ts m ∙ cond-false (misses row (leaves t)) (meets row (leaves_of ts)) (resumes row ts) n

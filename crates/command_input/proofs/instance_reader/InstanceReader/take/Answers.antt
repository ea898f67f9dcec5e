use Rattle.std.proofs.Common.{ap, inl}
use Rattle.row_model.specs.declared.kind.Kind.TheVariants as kind
use Rattle.instance_model.specs.Instance.{plain, circular, convex, doubly, proper}
use Rattle.command_input.specs.Instances.{map_read}
use Rattle.command_input.specs.declared.instance_reader.InstanceReader.TheVariants as reader
use Rattle.command_input.proofs.Taking.{over, refused_as}
use Rattle.command_input.proofs.instance_reader.InstanceReader.take.Goals as goal

pub returns-in-Matrix-clause-within : goal.returns-in-Matrix-clause-within
returns-in-Matrix-clause-within c = over reader.Matrix c.take.result c.taken_as.result c.taken_as.ensures _ _ (λ one count h. h) c.take.ensures.within

pub returns-in-Matrix-clause-value : goal.returns-in-Matrix-clause-value
returns-in-Matrix-clause-value c =
    rw c.in-Matrix.is (over reader.Matrix c.take.result c.taken_as.result c.taken_as.ensures _ _ (λ one count h rest. ap (map_read (plain kind.Matrix)) (h rest)) c.take.ensures.rows)

pub returns-in-Matrix-clause-whole : goal.returns-in-Matrix-clause-whole
returns-in-Matrix-clause-whole c =
    rw c.in-Matrix.is (over reader.Matrix c.take.result c.taken_as.result c.taken_as.ensures _ _ (λ one count h. refused_as (plain kind.Matrix) _ _ h) c.take.ensures.whole)

pub returns-in-Circular-clause-within : goal.returns-in-Circular-clause-within
returns-in-Circular-clause-within c = over reader.Circular c.take-in-Circular.result c.taken_as-in-Circular.result c.taken_as-in-Circular.ensures _ _ (λ one count h. h) c.take-in-Circular.ensures.within

pub returns-in-Circular-clause-value : goal.returns-in-Circular-clause-value
returns-in-Circular-clause-value c =
    rw c.in-Circular.is (over reader.Circular c.take-in-Circular.result c.taken_as-in-Circular.result c.taken_as-in-Circular.ensures _ _ (λ one count h rest. ap (map_read circular) (h rest)) c.take-in-Circular.ensures.rows)

pub returns-in-Circular-clause-whole : goal.returns-in-Circular-clause-whole
returns-in-Circular-clause-whole c =
    rw c.in-Circular.is (over reader.Circular c.take-in-Circular.result c.taken_as-in-Circular.result c.taken_as-in-Circular.ensures _ _ (λ one count h. refused_as circular _ _ h) c.take-in-Circular.ensures.whole)

pub returns-in-Rows-clause-within : goal.returns-in-Rows-clause-within
returns-in-Rows-clause-within c = over reader.Rows c.take-in-Rows.result c.taken_as-in-Rows.result c.taken_as-in-Rows.ensures _ _ (λ one count h. h) c.take-in-Rows.ensures.within

pub returns-in-Rows-clause-value : goal.returns-in-Rows-clause-value
returns-in-Rows-clause-value c =
    rw c.in-Rows.is (over reader.Rows c.take-in-Rows.result c.taken_as-in-Rows.result c.taken_as-in-Rows.ensures _ _ (λ one count h rest. ap (map_read (plain kind.Rows)) (h rest)) c.take-in-Rows.ensures.rows)

pub returns-in-Rows-clause-whole : goal.returns-in-Rows-clause-whole
returns-in-Rows-clause-whole c =
    rw c.in-Rows.is (over reader.Rows c.take-in-Rows.result c.taken_as-in-Rows.result c.taken_as-in-Rows.ensures _ _ (λ one count h. inl h) c.take-in-Rows.ensures.whole)

pub returns-in-Convex-clause-within : goal.returns-in-Convex-clause-within
returns-in-Convex-clause-within c = over reader.Convex c.take-in-Convex.result c.taken_as-in-Convex.result c.taken_as-in-Convex.ensures _ _ (λ one count h. h) c.take-in-Convex.ensures.within

pub returns-in-Convex-clause-value : goal.returns-in-Convex-clause-value
returns-in-Convex-clause-value c =
    rw c.in-Convex.is (over reader.Convex c.take-in-Convex.result c.taken_as-in-Convex.result c.taken_as-in-Convex.ensures _ _ (λ one count h rest. ap (map_read convex) (h rest)) c.take-in-Convex.ensures.graph)

pub returns-in-Convex-clause-whole : goal.returns-in-Convex-clause-whole
returns-in-Convex-clause-whole c =
    rw c.in-Convex.is (over reader.Convex c.take-in-Convex.result c.taken_as-in-Convex.result c.taken_as-in-Convex.ensures _ _ (λ one count h. refused_as convex _ _ h) c.take-in-Convex.ensures.whole)

pub returns-in-Doubly-clause-within : goal.returns-in-Doubly-clause-within
returns-in-Doubly-clause-within c = over reader.Doubly c.take-in-Doubly.result c.taken_as-in-Doubly.result c.taken_as-in-Doubly.ensures _ _ (λ one count h. h) c.take-in-Doubly.ensures.within

pub returns-in-Doubly-clause-value : goal.returns-in-Doubly-clause-value
returns-in-Doubly-clause-value c =
    rw c.in-Doubly.is (over reader.Doubly c.take-in-Doubly.result c.taken_as-in-Doubly.result c.taken_as-in-Doubly.ensures _ _ (λ one count h rest. ap (map_read doubly) (h rest)) c.take-in-Doubly.ensures.graph)

pub returns-in-Doubly-clause-whole : goal.returns-in-Doubly-clause-whole
returns-in-Doubly-clause-whole c =
    rw c.in-Doubly.is (over reader.Doubly c.take-in-Doubly.result c.taken_as-in-Doubly.result c.taken_as-in-Doubly.ensures _ _ (λ one count h. refused_as doubly _ _ h) c.take-in-Doubly.ensures.whole)

pub returns-in-Proper-clause-within : goal.returns-in-Proper-clause-within
returns-in-Proper-clause-within c = over reader.Proper c.take-in-Proper.result c.taken_as-in-Proper.result c.taken_as-in-Proper.ensures _ _ (λ one count h. h) c.take-in-Proper.ensures.within

pub returns-in-Proper-clause-value : goal.returns-in-Proper-clause-value
returns-in-Proper-clause-value c =
    rw c.in-Proper.is (over reader.Proper c.take-in-Proper.result c.taken_as-in-Proper.result c.taken_as-in-Proper.ensures _ _ (λ one count h rest. ap (map_read proper) (h rest)) c.take-in-Proper.ensures.graph)

pub returns-in-Proper-clause-whole : goal.returns-in-Proper-clause-whole
returns-in-Proper-clause-whole c =
    rw c.in-Proper.is (over reader.Proper c.take-in-Proper.result c.taken_as-in-Proper.result c.taken_as-in-Proper.ensures _ _ (λ one count h. refused_as proper _ _ h) c.take-in-Proper.ensures.whole)

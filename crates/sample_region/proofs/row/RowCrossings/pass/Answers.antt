use Rattle.std.proofs.Common.{rules, arith, ℕ, Bool, true, false, ◌+◌, ◌≡◌, to_z-of_z, FitsSigned, w32, cond, not}
use Rattle.std.specs.Int.{from_bool}
use Rattle.sample_region.proofs.WalkLemmas.{reopens, stayed, closed, closed_empty}
use Rattle.ass_num.proofs.OrderLemmas.{lt_is, lt_not}
use Rattle.sample_region.proofs.row.RowCrossings.pass.Goals as goal

bit : (b : Bool) (n m : ℕ) → m ≡ from_bool b → n + m ≡ n + cond b 1 0
bit true n m e = omega arith
bit false n m e = omega arith

pub returns-then-outside : goal.returns-then-outside
returns-then-outside c = λ low done w above all.
    let fa : FitsSigned w32 c.args.c.at = search rules in
    let fr : FitsSigned w32 c.reopened-self.result = search rules in
    let h = rw (to_z-of_z fa) at c.reopened-self.ensures in
    rw (to_z-of_z fr) (reopens _ _ _ _ _ _ c.args.c _ _ w above all (bit c.args.c.down _ _ c.from.ensures) (bit (not c.args.c.down) _ _ c.from-2.ensures) c.if-outside.true c.reopened-self.result c.reopened-self.new.runs.items h)

pub returns-then-self : goal.returns-then-self
returns-then-self c = λ low done w above all. stayed _ _ _ _ _ _ c.args.c _ _ w above all (bit c.args.c.down _ _ c.from.ensures) (bit (not c.args.c.down) _ _ c.from-2.ensures) c.if-outside.false c.if-self.true

pub returns-then-self-c : goal.returns-then-self-c
returns-then-self-c c = λ low done w above all.
    let fa : FitsSigned w32 c.args.c.at = search rules in
    let ff : FitsSigned w32 c.args.self.now.from = search rules in
    let g = rw (to_z-of_z fa, to_z-of_z ff) at c.if-self-c.true in
    rw c.in_ok-push.ensures.items (closed _ _ _ _ _ _ c.args.c _ _ w above all (bit c.args.c.down _ _ c.from.ensures) (bit (not c.args.c.down) _ _ c.from-2.ensures) c.if-outside.false c.if-self.false (lt_is c.args.self.now.from c.args.c.at g) c.args.self.now.from _ (to_z-of_z ff) (to_z-of_z fa))

pub returns : goal.returns
returns c = λ low done w above all.
    let fa : FitsSigned w32 c.args.c.at = search rules in
    let ff : FitsSigned w32 c.args.self.now.from = search rules in
    let g = rw (to_z-of_z fa, to_z-of_z ff) at c.if-self-c.false in
    closed_empty _ _ _ _ _ _ c.args.c _ _ w above all (bit c.args.c.down _ _ c.from.ensures) (bit (not c.args.c.down) _ _ c.from-2.ensures) c.if-outside.false c.if-self.false (lt_not c.args.self.now.from c.args.c.at g) c.args.self.now.from

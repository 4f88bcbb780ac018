-- `image::ClassImage::put_profile` meets its contract. Assumes nothing.
use Rattle.std.proofs.Common.{ℕ, ◌+◌, ◌<◌, ◌≡◌, sym, ap, ◌∙◌, List, arith, set}
use Rattle.lists.specs.Each.{column}
use Rattle.lists.proofs.EachLaws.{column_none, column-set}
use Rattle.image.specs.Limits.{max_entries}
use Rattle.image.specs.Header.{entry_count}
use Rattle.image.specs.Profile.{point_at, role_at}
use Rattle.image.specs.Order.{entry_by}
use Rattle.image.specs.declared.Profile.{Profile}
use Rattle.image.specs.declared.order.Entry.{Entry}
use Rattle.image.proofs.ImageLaws.{accepted}
use Rattle.image.proofs.OrderLaws.{entry_same}
use Rattle.image.proofs.AnswerLaws.{profile_is}
use Rattle.image.proofs.ClassImage.put_profile.Goals as goal

filled : (f : ℕ → ℕ) (i v : ℕ) (p : List ℕ) → p ≡ column max_entries f i → v ≡ f i → i < max_entries → set p i v ≡ column max_entries f (i + 1)
filled f i v p e d h = rw (e, d) (column-set max_entries f i h)

pub of-entries-requires : goal.of-entries-requires
of-entries-requires c = let h = (accepted _ c.self.invariant).header in omega arith

pub loop-i-init : goal.loop-i-init
loop-i-init c =
    let h = (accepted _ c.self.invariant).header in
    record {
      point_values = column_none max_entries (point_at c.args.self.now);
      role_values = column_none max_entries (role_at c.args.self.now);
      few = omega arith;
    }

pub loop-i-preserved : goal.loop-i-preserved
loop-i-preserved c =
    let l = c.loop-i.invariant in
    let s = c.args.self.now in
    let e : c.get-entry.result ≡ entry_by (point_at s) (role_at s) c.loop-i.i = entry_same _ (c.of-entries.ensures.0 ∙ c.self.view_is) c.get-entry.ensures in
    record {
      point_values = filled (point_at s) _ _ _ l.point_values (ap (λ (x : Entry). x.point) e) (omega (arith, l.few));
      role_values = filled (role_at s) _ _ _ l.role_values (ap (λ (x : Entry). x.role) e) (omega (arith, l.few));
      few = l.few;
    }

pub returns : goal.returns
returns c =
    let s = c.args.self.now in
    let n = c.of-entries.ensures.1 ∙ ap entry_count c.self.view_is in
    let e : c.loop-i.i ≡ entry_count s = omega arith in
    let p = profile_is s in
    let l = c.loop-i.invariant in
    record {
      value = n ∙ sym (ap (λ (x : Profile). x.used) p);
      points_after = l.point_values ∙ ap (column max_entries (point_at s)) e ∙ sym (ap (λ (x : Profile). x.points) p);
      roles_after = l.role_values ∙ ap (column max_entries (role_at s)) e ∙ sym (ap (λ (x : Profile). x.roles) p);
    }

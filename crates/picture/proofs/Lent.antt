-- The slices of a picture that is lent.
-- Assumes nothing.
use mathlib.Core.Path.{◌≡◌, sym, ap, ◌∙◌}
use Rattle.picture.specs.InnerLent.{Slices, contents, with_contents}
use Rattle.picture.specs.declared.Picture.{Picture}

-- slices that hold the same one by one
pub slices-are : {p q : Slices} → p.y ≡ q.y → p.cb ≡ q.cb → p.cr ≡ q.cr → p.mv ≡ q.mv → p.marks ≡ q.marks → p ≡ q
slices-are y cb cr mv marks = λ i. record { y = y i; cb = cb i; cr = cr i; mv = mv i; marks = marks i }

-- what holds other contents holds its own
pub stays : (p : Picture) {q : Picture} {s : Slices} → q ≡ with_contents p s → q ≡ with_contents p (contents q)
stays p e = e ∙ ap (λ (r : Picture). with_contents p (contents r)) (sym e)

-- the slices are the same ones
pub record Same (p q : Picture) : Type 0 where
  pub y : p.y.ghost_name ≡ q.y.ghost_name
  pub cb : p.cb.ghost_name ≡ q.cb.ghost_name
  pub cr : p.cr.ghost_name ≡ q.cr.ghost_name
  pub mv : p.mv.ghost_name ≡ q.mv.ghost_name
  pub marks : p.marks.ghost_name ≡ q.marks.ghost_name

pub same-slices : {p q : Picture} → p ≡ q → Same p q
same-slices e =
    record {
      y = ap (λ (r : Picture). r.y.ghost_name) e;
      cb = ap (λ (r : Picture). r.cb.ghost_name) e;
      cr = ap (λ (r : Picture). r.cr.ghost_name) e;
      mv = ap (λ (r : Picture). r.mv.ghost_name) e;
      marks = ap (λ (r : Picture). r.marks.ghost_name) e;
    }

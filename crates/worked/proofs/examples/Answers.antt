use Rattle.std.specs.Prelude.{Result}
use Rattle.tool06.specs.declared.figures.Figures.{Figures}
use Rattle.refusals.specs.declared.refusal.Refusal.{Refusal}
use mathlib.Core.Path.{◌≡◌, refl, ap, ◌∙◌}
use mathlib.Core.List.{List, ◌∷◌}
use Rattle.site.specs.declared.Site.{Site}
use Rattle.minute.specs.declared.gas.Gas.{Gas}
use Rattle.minute.specs.declared.Minute.{Minute}
use Rattle.worked.specs.declared.Example.{Example}
use Rattle.worked.specs.Table.{reading, line, table}
use Rattle.worked.proofs.examples.Goals as goal

row : {x : Example} {s t : Site} {m n : Minute} {a b : Result Figures Refusal} {xs ys : List Example} → x ≡ line s m a → s ≡ t → m ≡ n → a ≡ b → xs ≡ ys → x ∷ xs ≡ line t n b ∷ ys
row e s m a rest = rw (e, s, m, a, rest)

pub returns : goal.returns
unfolding table
returns c =
    let bare = c.flare-open.ensures in
    let low = c.flare-low_default.ensures in
    let tall = c.flare-tall_default.ensures in
    let low-m = c.flare-low_measured.ensures in
    let tall-m = c.flare-tall_measured.ensures in
    let g = c.gas-g.ensures in
    let lit = c.reading-lit.ensures ∙ ap (λ (x : Gas). reading 7 1000 x 100) g in
    let unlit = c.reading-unlit.ensures ∙ ap (λ (x : Gas). reading 6 1000 x 100) g in
    let litre = c.reading-litre.ensures ∙ ap (λ (x : Gas). reading 7 1 x 100) c.gas.ensures in
    let f40000 = c.reading-f40000.ensures ∙ ap (λ (x : Gas). reading 7 1000 x 40000) g in
    let f50000 = c.reading-f50000.ensures ∙ ap (λ (x : Gas). reading 7 1000 x 50000) g in
    let even = c.reading-even.ensures ∙ ap (λ (x : Gas). reading 7 1000 x 100) c.gas-2.ensures in
    let airy = c.reading-airy.ensures ∙ ap (λ (x : Gas). reading 7 1000 x 100) c.gas-3.ensures in
    row c.line.ensures bare lit c.answers.ensures
    (row c.line-2.ensures bare unlit c.answers-2.ensures
    (row c.line-3.ensures tall lit c.answers-3.ensures
    (row c.line-4.ensures low lit c.answers-4.ensures
    (row c.line-5.ensures bare litre c.answers-5.ensures
    (row c.line-6.ensures tall litre c.answers-6.ensures
    (row c.line-7.ensures tall-m lit c.answers-7.ensures
    (row c.line-8.ensures low-m lit c.answers-8.ensures
    (row c.line-9.ensures tall-m f50000 c.answers-9.ensures
    (row c.line-10.ensures low-m f40000 c.answers-10.ensures
    (row c.line-11.ensures tall-m even c.answers-11.ensures
    (row c.line-12.ensures tall-m airy refl
    refl)))))))))))

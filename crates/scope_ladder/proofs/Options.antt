-- Whether one of the options that are left is of TCP MD5.
use Rattle.std.proofs.Common.{◌≡◌, ◌==◌, ◌||◌, Bool, true, false, List, ◌∷◌, refl, sym, ap, ◌∙◌}
use Rattle.std.specs.List.{list_any}
use Rattle.book_segments.specs.Options.{Plain}
use Rattle.book_sessions.specs.Sessions.{is_md5}

any_first : (b rest : Bool) → b ≡ true → true ≡ (b || rest)
any_first true rest e = refl
any_first false rest e = absurd (cc)

any_rest : (b rest : Bool) → b ≡ false → rest ≡ (b || rest)
any_rest true rest e = absurd (cc)
any_rest false rest e = refl

pub md5_at : (items rest : List Plain) (o : Plain) → items ≡ o ∷ rest → (o.kind == 19) ≡ true → true ≡ list_any is_md5 items
md5_at items rest o e is = any_first (o.kind == 19) (list_any is_md5 rest) is ∙ sym (ap (list_any is_md5) e)

pub md5_past : (items rest : List Plain) (o : Plain) → items ≡ o ∷ rest → (o.kind == 19) ≡ false → list_any is_md5 rest ≡ list_any is_md5 items
md5_past items rest o e is = any_rest (o.kind == 19) (list_any is_md5 rest) is ∙ sym (ap (list_any is_md5) e)

-- Texts of more than five parts put behind one another, part by part.
use Rattle.std.proofs.Common.{◌≡◌, ℕ, List, ◌++◌, ◌∙◌, append_assoc}
use Rattle.plan_texts.proofs.Parts.{five}

pub six : (out a b c d e f one two put most fifth new : List ℕ) → one ≡ out ++ a → two ≡ one ++ b → put ≡ two ++ c → most ≡ put ++ d → fifth ≡ most ++ e → new ≡ fifth ++ f
    → new ≡ out ++ (a ++ (b ++ (c ++ (d ++ (e ++ f)))))
six out a b c d e f one two put most fifth new h1 h2 h3 h4 h5 h6 =
    five out a b c d (e ++ f) one two put most new h1 h2 h3 h4 (h6 ∙ rw h5 (append_assoc most e f))

pub seven : (out a b c d e f g one two put most fifth sixth new : List ℕ) → one ≡ out ++ a → two ≡ one ++ b → put ≡ two ++ c → most ≡ put ++ d → fifth ≡ most ++ e → sixth ≡ fifth ++ f → new ≡ sixth ++ g
    → new ≡ out ++ (a ++ (b ++ (c ++ (d ++ (e ++ (f ++ g))))))
seven out a b c d e f g one two put most fifth sixth new h1 h2 h3 h4 h5 h6 h7 =
    six out a b c d e (f ++ g) one two put most fifth new h1 h2 h3 h4 h5 (h7 ∙ rw h6 (append_assoc fifth f g))

pub eight : (out a b c d e f g h one two put most fifth sixth seventh new : List ℕ) → one ≡ out ++ a → two ≡ one ++ b → put ≡ two ++ c → most ≡ put ++ d → fifth ≡ most ++ e → sixth ≡ fifth ++ f → seventh ≡ sixth ++ g → new ≡ seventh ++ h
    → new ≡ out ++ (a ++ (b ++ (c ++ (d ++ (e ++ (f ++ (g ++ h)))))))
eight out a b c d e f g h one two put most fifth sixth seventh new h1 h2 h3 h4 h5 h6 h7 h8 =
    seven out a b c d e f (g ++ h) one two put most fifth sixth new h1 h2 h3 h4 h5 h6 (h8 ∙ rw h7 (append_assoc sixth g h))

pub nine : (out a b c d e f g h i one two put most fifth sixth seventh eighth new : List ℕ) → one ≡ out ++ a → two ≡ one ++ b → put ≡ two ++ c → most ≡ put ++ d → fifth ≡ most ++ e → sixth ≡ fifth ++ f → seventh ≡ sixth ++ g → eighth ≡ seventh ++ h → new ≡ eighth ++ i
    → new ≡ out ++ (a ++ (b ++ (c ++ (d ++ (e ++ (f ++ (g ++ (h ++ i))))))))
nine out a b c d e f g h i one two put most fifth sixth seventh eighth new h1 h2 h3 h4 h5 h6 h7 h8 h9 =
    eight out a b c d e f g (h ++ i) one two put most fifth sixth seventh new h1 h2 h3 h4 h5 h6 h7 (h9 ∙ rw h8 (append_assoc seventh h i))

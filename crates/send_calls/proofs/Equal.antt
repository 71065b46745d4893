-- The records' own equality is the rule's test of their numbers. Assumes nothing.
use Rattle.std.proofs.Common.{◌≡◌, Bool, true, false, ◌&&◌, ℤ, pos, negsuc, refl, sym, rules, ap, ◌∙◌}
use Rattle.std.specs.Ordering.{int_eq}
use Rattle.std.proofs.lemmas.Bool.Decides.{same_from_decides, Decides-int_eq}
use Rattle.game_records.specs.Numbers.{same_number, core_numbers}
use Rattle.game_records.proofs.Same.{number_same, number_self}
use Rattle.send_rule.specs.Send.{same_core}
use Rattle.game_records.specs.declared.CharacterCore.{CharacterCore}

-- the test that the derive makes
abbrev pub equal : CharacterCore → CharacterCore → Bool
equal a b = int_eq a.tick b.tick && (int_eq a.x b.x && (int_eq a.y b.y && (int_eq a.vel_x b.vel_x && (int_eq a.vel_y b.vel_y && (int_eq a.angle b.angle && (int_eq a.direction b.direction && (int_eq a.jumped b.jumped && (int_eq a.hooked_player b.hooked_player && (int_eq a.hook_state b.hook_state && (int_eq a.hook_tick.0 b.hook_tick.0 && (int_eq a.hook_x b.hook_x && (int_eq a.hook_y b.hook_y && (int_eq a.hook_dx b.hook_dx && (int_eq a.hook_dy b.hook_dy))))))))))))))

number_test : (x y : ℤ) → int_eq x y ≡ same_number x y
number_test x y = same_from_decides _ _ (Decides-int_eq x y) (number_same x y, λ e. ap (same_number x) (sym e) ∙ number_self x)

last : (b : Bool) → b && true ≡ b
last true = refl
last false = refl

pub equal_is : (a b : CharacterCore) → equal a b ≡ same_core a b
unfolding same_core core_numbers
equal_is a b = simp (number_test, last)

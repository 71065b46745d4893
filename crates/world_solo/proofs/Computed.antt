-- The definitions that calls and steps compute with, in groups that a proof by computation unfolds. Assumes nothing.
use lib.Ieee.{span, climb, size, odd, units, round, neg, sum, add, sub, mul, div, lt, le, ne, of_int, to_signed, whole, in_signed, of_fields, of_bits, is_nan}
use Rattle.base_turns.specs.Turns.{run, fold}
use Rattle.num_root.specs.Root.{isqrt_in, isqrt, root_of, root}
use Rattle.num_convert.specs.Casts.{cast_signed, cast_unsigned}
use Rattle.num_convert.specs.Convert.{i32_to_f32, hundredths_to_f32, to256ths, from256ths}
use Rattle.num_convert.specs.Number.{clamp, saturated_add}
use Rattle.num_convert.specs.Whole.{whole_of}
use Rattle.num_vec2.specs.Vec2.{vadd, vsub, vmul, vdiv, vlength, vnormalize, vdistance, vdot, vmix, closest_point_on_line}
use Rattle.num_ramp.specs.Power.{parts, squares, roots, powf}
use Rattle.num_ramp.specs.Ramp.{velocity_ramp}
use Rattle.map_corners.specs.Tile.{tile_of, tile_at}
use Rattle.map_tiles.specs.Box.{check_box, on_deadly}
use Rattle.map_tiles.specs.Map.{is_side, is_map, tile_in, check_point}
use Rattle.map_lines.specs.Line.{line_turns, line_turn, line_hit, walk_line}
use Rattle.map_walks.specs.Move.{box_turns, blocked, box_turn, box_turns_taken, walk_box}
use Rattle.game_input.specs.Direction.{from_int, as_int, as_float}
use Rattle.game_input.specs.Inputs.{move_direction, target_dir, jumps, hooks}
use Rattle.game_tuning.specs.Tuning.{fresh_tunings, is_hold, hold_of, may_tune, tuning_at, tuning_of}
use Rattle.character_hook.specs.Flying.{flown}
use Rattle.character_hook.specs.Hook.{net_state, net_pos, net_dir, tick_of, net_hooked_player, attached_or_grabbed, hook_from_net}
use Rattle.character_hook.specs.Hooking.{fired, fire, fly, strike, closer, nearer, grab, retract, hold}
use Rattle.character_motion.specs.Controls.{grounded, control_of, jump, landed, walk, clamp_speed}
use Rattle.character_meeting.specs.Meeting.{additional_vel, pushed, push, pull, drag_accel, pulled, drags, pull_on, held, meet}
use Rattle.character_walk.specs.Touching.{touches}
use Rattle.character_walk.specs.Walking.{ramped_move, player_turns, rest_at}
use Rattle.character.specs.Character.{spawn}
use Rattle.character.specs.Records.{net_jumped, used_airjump_from_net, jumped_already_from_net, core_of, to_net, from_net}
use Rattle.character.specs.Tick.{steer, nearest, caught, meet_all, pull_of, after_pull, hooked, tick_at}
use Rattle.character.specs.Walk.{is_close, walk_among, player_walk, move_at}
use Rattle.world.specs.Calls.{place_of, is_in_reach, point_of, join_at, join, input, tune}
use Rattle.world.specs.Removal.{dying}
use Rattle.world.specs.Step.{tick_all, record_of, move_all, step_on, step}
use Rattle.world.specs.World.{fresh}

-- the kit's floats
unfoldable pub float_rules : Unit {0}
unfolding span climb size odd units round neg sum add sub mul div lt le ne of_int to_signed whole in_signed of_fields of_bits is_nan
float_rules = tt

-- walks, roots, conversions and vectors
unfoldable pub number_rules : Unit {0}
unfolding run fold isqrt_in isqrt root_of root cast_signed cast_unsigned i32_to_f32 hundredths_to_f32 to256ths from256ths clamp saturated_add whole_of vadd vsub vmul vdiv vlength vnormalize vdistance vdot vmix closest_point_on_line parts squares roots powf velocity_ramp
number_rules = tt

-- the map, lines and boxes
unfoldable pub map_rules : Unit {0}
unfolding tile_of tile_at check_box on_deadly is_side is_map tile_in check_point line_turns line_turn line_hit walk_line box_turns blocked box_turn box_turns_taken walk_box
map_rules = tt

-- inputs, tunings and hooks
unfoldable pub hook_rules : Unit {0}
unfolding from_int as_int as_float move_direction target_dir jumps hooks fresh_tunings is_hold hold_of may_tune tuning_at tuning_of Rattle.character_hook.specs.Dragging.dragged flown net_state net_pos net_dir tick_of net_hooked_player attached_or_grabbed hook_from_net fired fire fly strike closer nearer grab retract hold
hook_rules = tt

-- ticks, moves and records
unfoldable pub character_rules : Unit {0}
unfolding grounded control_of jump landed walk clamp_speed additional_vel pushed push pull drag_accel pulled Rattle.character_meeting.specs.Meeting.dragged drags pull_on held meet touches ramped_move player_turns rest_at spawn net_jumped used_airjump_from_net jumped_already_from_net core_of to_net from_net steer nearest caught meet_all pull_of after_pull hooked tick_at is_close walk_among player_walk move_at
character_rules = tt

-- the calls
unfoldable pub call_rules : Unit {0}
unfolding place_of is_in_reach point_of join_at join input tune dying tick_all record_of move_all step_on step fresh
call_rules = tt

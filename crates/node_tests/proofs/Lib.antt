pub mod OneHeld

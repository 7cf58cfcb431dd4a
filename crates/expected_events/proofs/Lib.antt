mod CalledLemmas
mod EventsLemmas
mod FindingLemmas
mod FollowedLemmas
mod KeptLemmas
mod RisingLemmas
mod RunsLemmas
mod StandingLemmas
